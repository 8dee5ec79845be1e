-- The first address, by U and by whether one register moves.
use mathlib.Core.Path.{◌≡◌, refl, sym}
use mathlib.Core.Bool.{Bool, true, false, cond, not, ◌&&◌}
use Prim.Native.Nat.{ℕ, ◌+◌, ◌%◌, ◌^◌}
use mathlib.Core.Bool.{true≢false}

module _ (a k l : ℕ) where
  -- the base itself
  pub at_base : (u one : Bool) → (u && not one) ≡ true → a ≡ cond u (cond one ((a + k) % 2 ^ 32) a) ((a + l) % 2 ^ 32)
  at_base true false h = refl
  at_base true true h = absurd (true≢false (sym h))
  at_base false one h = absurd (true≢false (sym h))

  -- the base and the offset
  pub at_offset : (u one : Bool) → (u && not one) ≡ false → (a + cond u k l) % 2 ^ 32 ≡ cond u (cond one ((a + k) % 2 ^ 32) a) ((a + l) % 2 ^ 32)
  at_offset true true h = refl
  at_offset true false h = absurd (true≢false h)
  at_offset false one h = refl
