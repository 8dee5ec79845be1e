-- One step of a conversion from or to an integer.
use Rattle.std.specs.Prelude.{ℕ, Bool, [], ◌∷◌, ◌++◌}
use Rattle.std.specs.Float.{Format, binary32, binary64}
use Rattle.machine.specs.Place.{control, s_word}
use Rattle.rounding.specs.declared.rounding.Rounding.TheVariants.{Nearest, Zero}
use Rattle.integers.specs.Integer.{from_integer, to_integer, from_integer_exceptions, to_integer_exceptions}
use Rattle.rounding.specs.Rounding.{rounding_of}
use Rattle.meaning.specs.Step.{Step, fst, snd, rest}
use Rattle.short_vectors.specs.Register.{words_of, values_of, written, raising}

-- An integer stands in a single. A single is rounded by the mode of FPSCR 23:22; a double has room for every integer, so that no mode is looked at.
abbrev pub from_written : Format → Bool → ℕ → ℕ → Step
from_written binary32 sign d m = written binary32 d (control ∷ s_word m ∷ []) (λ vs. from_integer binary32 (rounding_of (fst vs)) sign (snd vs))
from_written binary64 sign d m = written binary64 d (s_word m ∷ []) (λ vs. from_integer binary64 Nearest sign (fst vs))

-- whether it is exact depends on no mode
abbrev pub from_step : Format → Bool → ℕ → ℕ → Step
from_step f sign d m = from_written f sign d m ++ (raising (s_word m ∷ []) (λ vs. from_integer_exceptions f sign (fst vs)) ∷ [])

-- to an integer, towards zero, and by the mode of FPSCR 23:22
abbrev pub truncate_step : Format → Bool → ℕ → ℕ → Step
truncate_step f sign d m =
    let sources = words_of f (m ∷ []) in
    record { target = s_word d; sources = sources; value = λ vs. to_integer f Zero sign (fst (values_of f vs)) }
    ∷ raising sources (λ vs. to_integer_exceptions f Zero sign (fst (values_of f vs)))
    ∷ []

abbrev pub round_step : Format → Bool → ℕ → ℕ → Step
round_step f sign d m =
    let sources = control ∷ words_of f (m ∷ []) in
    record { target = s_word d; sources = sources; value = λ vs. to_integer f (rounding_of (fst vs)) sign (fst (values_of f (rest vs))) }
    ∷ raising sources (λ vs. to_integer_exceptions f (rounding_of (fst vs)) sign (fst (values_of f (rest vs))))
    ∷ []
