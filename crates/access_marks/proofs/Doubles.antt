-- Registers in turn leave the marks that their words in turn leave.
use mathlib.Core.Path.{◌≡◌, refl, ap, ◌∙◌}
use mathlib.Core.Bool.{Bool, true, false}
use mathlib.Core.List.{◌++◌}
use Prim.Native.Nat.{ℕ, zero, suc, ◌+◌, ◌*◌}
use native.Mathlib.Omega.{arith}
use lib.Ieee.{Format, binary32, binary64}
use Rattle.registers.specs.Registers.{low_index}
use Rattle.meaning.specs.Map.{Map}
use Rattle.meaning.specs.Step.{Step, step_marks, after_marks}
use Rattle.meaning.proofs.Laws.{marks_one}
use Rattle.addresses.specs.Address.{words_in, first_word}
use Rattle.memory.specs.LoadStore.{access_step, access_at}
use Rattle.memory.proofs.Doubles.{halves}

-- a mark that is read is none that the other half writes
pub in_turn : (load : Bool) (base n m a b : ℕ) (μ : Map) → step_marks (access_step binary32 load base n a ++ access_step binary32 load base m b) μ
    ≡ step_marks (access_step binary32 load base m b) (step_marks (access_step binary32 load base n a) μ)
in_turn true base n m a b μ = refl
in_turn false base n m a b μ = refl

module _ (load : Bool) (base d a : ℕ) where
  doubles : (k : ℕ) (μ : Map) → after_marks k (access_at binary64 load base d a) μ ≡ after_marks (2 * k) (access_at binary32 load base (low_index d) a) μ
  unfolding after_marks
  doubles zero μ = refl
  doubles (suc k) μ =
      let e : 2 * suc k ≡ 2 * k + 1 + 1 = omega arith in
      rw e (ap (λ (x : Step). step_marks x (after_marks k (access_at binary64 load base d a) μ)) (halves load base d a k) ∙ in_turn load base _ _ _ _ _ ∙ marks_one (2 * k + 1) _ μ _ (marks_one (2 * k) _ μ _ (doubles k μ)))

  pub in_words : (f : Format) (k : ℕ) (μ : Map)
      → after_marks k (access_at f load base d a) μ ≡ after_marks (words_in f * k) (access_at binary32 load base (first_word f d) a) μ
  in_words binary32 k μ = let e : 1 * k ≡ k = omega arith in rw e
  in_words binary64 k μ = doubles k μ
