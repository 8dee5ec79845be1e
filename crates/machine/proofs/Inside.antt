-- The window by one formula is the window as document 01 says it, where limits 3 and 4 hold.
use mathlib.Core.Bool.{Bool, true, false, cond, ◌&&◌}
use mathlib.Core.Path.{◌≡◌, refl, ap}
use mathlib.Core.List.{List, [], ◌∷◌}
use Prim.Native.Nat.{ℕ, zero, suc, ◌+◌, ◌-◌, ◌*◌, ◌/◌, ◌%◌, ◌^◌, ◌<◌, ◌≤◌}
use native.Mathlib.Omega.{arith}
use lib.ListN.{length, get_or, set, get_or-eq_default}
use borrow.Author.Tests.{leb-true, leb-false, ltb-true, ltb-false}
use Rattle.machine.specs.Window.{aligned, from_base, before_end, inside, read_at, written_at, word_at}

-- by whether both tests hold
either : {A : Type 0} (x y : Bool) (t e : A) {g : A} → (x ≡ true → y ≡ true → g ≡ t) → (x ≡ false → g ≡ e) → (x ≡ true → y ≡ false → g ≡ e) → g ≡ cond (x && y) t e
either true true t e p q r = p refl refl
either true false t e p q r = r refl refl
either false y t e p q r = q refl

-- past its end a list is not changed
pub set_past : (l : List ℕ) (i v : ℕ) → length l ≤ i → set l i v ≡ l
set_past [] i v h = refl
set_past (x ∷ l) zero v h = absurd (omega arith)
set_past (x ∷ l) (suc i) v h = ap (◌∷◌ x) (set_past l i v (omega arith))

module _ (base : ℕ) (window : List ℕ) (a : ℕ) (three : base % 4 ≡ 0) (four : base + 4 * length window ≤ 2 ^ 32) (fits : a < 2 ^ 32) where
  at_inside : base ≤ aligned a → word_at base a ≡ (aligned a - base) / 4
  unfolding word_at
  at_inside h = omega arith

  below : aligned a < base → length window ≤ word_at base a
  unfolding word_at
  below h = omega arith

  above : base ≤ aligned a → base + 4 * length window ≤ aligned a → length window ≤ word_at base a
  unfolding word_at
  above h g = omega arith

  -- a read of a list of one entry for each word: past its end d
  pub entry_inside : (d : ℕ) → get_or window (word_at base a) d ≡ cond (inside base (length window) a) (get_or window ((aligned a - base) / 4) d) d
  entry_inside d =
      either (from_base base a) (before_end base (length window) a) _ _ (λ p q. ap (λ (i : ℕ). get_or window i d) (at_inside (omega (arith, leb-true, ltb-true))))
      (λ p. get_or-eq_default window d (below (omega (arith, leb-false, ltb-false))))
      (λ p q. get_or-eq_default window d (above (omega (arith, leb-true, ltb-true)) (omega (arith, leb-false, ltb-false))))

  pub read_inside : get_or window (word_at base a) 0 ≡ read_at base window a
  read_inside = entry_inside 0

  pub write_inside : (v : ℕ) → set window (word_at base a) v ≡ written_at base window a v
  write_inside v =
      either (from_base base a) (before_end base (length window) a) _ _ (λ p q. ap (λ (i : ℕ). set window i v) (at_inside (omega (arith, leb-true, ltb-true))))
      (λ p. set_past window _ v (below (omega (arith, leb-false, ltb-false))))
      (λ p q. set_past window _ v (above (omega (arith, leb-true, ltb-true)) (omega (arith, leb-false, ltb-false))))
