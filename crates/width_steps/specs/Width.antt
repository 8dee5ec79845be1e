-- One step of a conversion between single and double.
use Rattle.std.specs.Prelude.{ℕ, [], ◌∷◌, ◌++◌}
use Rattle.std.specs.Float.{binary32, binary64}
use Rattle.machine.specs.Place.{control, s_word}
use Rattle.widths.specs.Convert.{narrow, widen, narrow_exceptions, widen_exceptions}
use Rattle.meaning.specs.Step.{Step, fst, rest}
use Rattle.short_vectors.specs.Register.{words_of, values_of, written, raising}

-- Narrowing rounds by the mode and flushes, and of both a NaN goes by bit 25, so FPSCR 27:5 is a source. What widening raises depends on its operand alone.
abbrev pub widen_step : ℕ → ℕ → Step
widen_step d m =
    written binary64 d (control ∷ words_of binary32 (m ∷ [])) (λ vs. widen (fst vs) (fst (values_of binary32 (rest vs))))
    ++ (raising (words_of binary32 (m ∷ [])) (λ vs. widen_exceptions (fst (values_of binary32 vs))) ∷ [])

abbrev pub narrow_step : ℕ → ℕ → Step
narrow_step d m =
    let sources = control ∷ words_of binary64 (m ∷ []) in
    record { target = s_word d; sources = sources; value = λ vs. narrow (fst vs) (fst (values_of binary64 (rest vs))) }
    ∷ raising sources (λ vs. narrow_exceptions (fst vs) (fst (values_of binary64 (rest vs))))
    ∷ []
