-- The words of the answer.
use Prim.Native.Nat.{ℕ, ◌≤◌}
use native.Mathlib.Omega.{arith}
use mathlib.Core.Path.{◌≡◌, refl, ◌∙◌}
use mathlib.Core.List.{List, [], ◌∷◌, ◌++◌}
use lib.ListN.{length, set, take, drop, length-set, length-take, length-append, length-drop}
use borrow.Author.Tests.{ne_eqb}
use Rattle.outcomes.specs.Outcome.{result_of}
use Rattle.calls.specs.Outcome.{refusal_word}

-- three words at the end of eight
abbrev ended : List ℕ → ℕ → ℕ → ℕ → List ℕ
ended a x y z = set (set (set a 5 x) 6 y) 7 z

module _ (a : List ℕ) (x y z : ℕ) (n : length a ≡ 8) where
  pub ended-length : length (ended a x y z) ≡ 8
  ended-length = simp length-set n

  pub first_five : length (take 5 (ended a x y z)) ≡ 5
  first_five = length-take 5 (ended a x y z) ∙ rw ended-length refl

  pub whole_length : (p : List ℕ) → length p ≡ 5 → length (p ++ drop 5 (ended a x y z)) ≡ length a
  whole_length p e = omega (arith, length-append p (drop 5 (ended a x y z)), length-drop 5 (ended a x y z), ended-length)

pub last_three : (a : List ℕ) (x y z : ℕ) → length a ≡ 8 → drop 5 (ended a x y z) ≡ x ∷ y ∷ z ∷ []
last_three (a ∷ b ∷ c ∷ d ∷ e ∷ f ∷ g ∷ h ∷ []) x y z n = refl
last_three (a ∷ b ∷ c ∷ d ∷ e ∷ f ∷ g ∷ h ∷ i ∷ l) x y z n = absurd (omega arith)
last_three [] x y z n = absurd (omega arith)
last_three (a ∷ []) x y z n = absurd (omega arith)
last_three (a ∷ b ∷ []) x y z n = absurd (omega arith)
last_three (a ∷ b ∷ c ∷ []) x y z n = absurd (omega arith)
last_three (a ∷ b ∷ c ∷ d ∷ []) x y z n = absurd (omega arith)
last_three (a ∷ b ∷ c ∷ d ∷ e ∷ []) x y z n = absurd (omega arith)
last_three (a ∷ b ∷ c ∷ d ∷ e ∷ f ∷ []) x y z n = absurd (omega arith)
last_three (a ∷ b ∷ c ∷ d ∷ e ∷ f ∷ g ∷ []) x y z n = absurd (omega arith)

-- a chain's refusal is not 255, the number of an invalid argument: its result is its word
pub told_word : (n : ℕ) → n ≤ 13 → result_of n ≡ refusal_word n
unfolding result_of
told_word n s = rw (ne_eqb n 255 (λ e. omega (arith, e, s))) refl
