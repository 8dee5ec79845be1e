-- One step of a square root.
use Rattle.std.specs.Prelude.{ℕ, [], ◌∷◌, ◌++◌}
use Rattle.std.specs.Float.{Format}
use Rattle.roots.specs.Root.{square_root, root_exceptions}
use Rattle.meaning.specs.Step.{Step, fst}
use Rattle.short_vectors.specs.Register.{words_of, values_of, written, raising}

abbrev pub root_step : Format → ℕ → ℕ → ℕ → Step
root_step f c d m =
    let sources = words_of f (m ∷ []) in
    written f d sources (λ vs. square_root f c (fst (values_of f vs))) ++ (raising sources (λ vs. root_exceptions f (fst (values_of f vs))) ∷ [])
