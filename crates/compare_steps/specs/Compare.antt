-- One step of a compare.
use Rattle.std.specs.Prelude.{ℕ, Bool, [], ◌∷◌}
use Rattle.std.specs.Float.{Format}
use Rattle.machine.specs.Place.{flags}
use Rattle.comparisons.specs.Compare.{compare_flags, compare_exceptions}
use Rattle.meaning.specs.Step.{Step, fst, snd}
use Rattle.short_vectors.specs.Register.{words_of, values_of, raising}

-- a compare sets FPSCR 31:28, and raises invalid for a signalling NaN; with any, for any NaN
abbrev pub compare_step : Format → Bool → ℕ → ℕ → Step
compare_step f any d m =
    let sources = words_of f (d ∷ m ∷ []) in
    record { target = flags; sources = sources; value = λ vs. let x = values_of f vs in compare_flags f (fst x) (snd x) }
    ∷ raising sources (λ vs. let x = values_of f vs in compare_exceptions f any (fst x) (snd x))
    ∷ []

abbrev pub compare_zero_step : Format → Bool → ℕ → Step
compare_zero_step f any d =
    let sources = words_of f (d ∷ []) in
    record { target = flags; sources = sources; value = λ vs. compare_flags f (fst (values_of f vs)) 0 }
    ∷ raising sources (λ vs. compare_exceptions f any (fst (values_of f vs)) 0)
    ∷ []
