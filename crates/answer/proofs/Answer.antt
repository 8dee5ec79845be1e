-- The words of an answer, written one by one.
use Prim.Native.Nat.{ℕ, ◌<◌}
use native.Mathlib.Omega.{arith}
use mathlib.Core.Path.{◌≡◌, refl}
use mathlib.Core.List.{List, [], ◌∷◌}
use lib.ListN.{length, set, length-set}

pub five_words : (l : List ℕ) (a b c d e : ℕ) → length l ≡ 5 → set (set (set (set (set l 0 a) 1 b) 2 c) 3 d) 4 e ≡ a ∷ b ∷ c ∷ d ∷ e ∷ []
five_words [] a b c d e h = absurd (omega arith)
five_words (p ∷ []) a b c d e h = absurd (omega arith)
five_words (p ∷ q ∷ []) a b c d e h = absurd (omega arith)
five_words (p ∷ q ∷ r ∷ []) a b c d e h = absurd (omega arith)
five_words (p ∷ q ∷ r ∷ s ∷ []) a b c d e h = absurd (omega arith)
five_words (p ∷ q ∷ r ∷ s ∷ t ∷ []) a b c d e h = refl
five_words (p ∷ q ∷ r ∷ s ∷ t ∷ u ∷ v) a b c d e h = absurd (omega arith)

pub fifth : (l : List ℕ) (a b c d : ℕ) → length l ≡ 5 → 4 < length (set (set (set (set l 0 a) 1 b) 2 c) 3 d)
fifth l a b c d h =
    rw (length-set (set (set (set l 0 a) 1 b) 2 c) 3 d, length-set (set (set l 0 a) 1 b) 2 c, length-set (set l 0 a) 1 b, length-set l 0 a, h) (omega arith)
