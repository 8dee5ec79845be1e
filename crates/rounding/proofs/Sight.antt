-- The mode names the whole number that a fraction is rounded to. Assumes nothing.
use mathlib.Core.Path.{◌≡◌, refl, sym}
use mathlib.Core.Bool.{Bool, true, false, cond}
use Prim.Native.Nat.{ℕ, zero, suc, ◌+◌, ◌*◌, ◌/◌, ◌%◌, ◌≤◌, ◌<◌, compare, Ordering}
use native.Mathlib.Nat.{le_trans, le_of_eq, lt_of_lt_of_le, lt_of_le_of_lt, suc-mul, div-add-mod', mod-lt}
use native.Mathlib.Omega.{arith}
use lib.Dec.{eqb}
use borrow.Author.Tests.{eqb-true, eqb-false}
use lib.Ieee.{nearest}
use Rattle.rounding.specs.Rounding.{cut_to, Floor, Ceil, Near, Names}
use Rattle.rounding.specs.declared.rounding.Rounding.{Rounding}
use Rattle.rounding.specs.declared.rounding.Rounding.TheVariants.{Nearest, Up, Down, Zero}
use Rattle.rounding.proofs.Order.{Cmp, cmp}

-- ---- the whole number that a mode names

pub parity : (q : ℕ) → q % 2 < 2
parity q = omega arith

pub even : (q : ℕ) → (q + q % 2) % 2 ≡ 0
even q = omega arith

Near-tie : (a c q r z : ℕ) → z < 2 → q * c + r ≡ a → r * 2 ≡ c → (q + z) % 2 ≡ 0 → Near a c (q + z)
Near-tie a c q r zero l e h v = (omega arith, omega arith, λ (x : 2 * a ≡ (2 * (q + 0) + 1) * c). v, λ (x : 2 * (q + 0) * c ≡ 2 * a + c). v)
Near-tie a c q r (suc zero) l e h v = (omega arith, omega arith, λ (x : 2 * a ≡ (2 * (q + 1) + 1) * c). v, λ (x : 2 * (q + 1) * c ≡ 2 * a + c). v)
Near-tie a c q r (suc (suc z)) l e h v = absurd (none z l)
  where
    none : (z : ℕ) → suc (suc z) < 2 → ⊥
    none z l = omega arith

Near-at : (a c q r : ℕ) (o : Ordering) → 0 < c → Cmp o (r * 2) c → q * c + r ≡ a → r < c → Near a c (nearest q o)
Near-at a c q r Ordering.lt C h e l = (omega arith, omega arith, λ (x : 2 * a ≡ (2 * q + 1) * c). omega arith, λ (x : 2 * q * c ≡ 2 * a + c). omega arith)
Near-at a c q r Ordering.eq C h e l = Near-tie a c q r (q % 2) (parity q) e h (even q)
Near-at a c q r Ordering.gt C h e l = (omega arith, omega arith, λ (x : 2 * a ≡ (2 * suc q + 1) * c). omega arith, λ (x : 2 * suc q * c ≡ 2 * a + c). omega arith)

module _ (a c : ℕ) (C : 0 < c) where
  whole : a / c * c + a % c ≡ a
  whole = div-add-mod' a c

  floor : Floor a c (a / c)
  floor = go (a / c) (a % c) whole (mod-lt a C)
    where
      go : (q r : ℕ) → q * c + r ≡ a → r < c → (q * c ≤ a) × (a < suc q * c)
      go q r e l = (omega arith, lt_of_lt_of_le (under q r e l) (le_of_eq (sym (suc-mul q c))))
        where
          under : (q r : ℕ) → q * c + r ≡ a → r < c → a < q * c + c
          under q r e l = omega arith

  ceil : Ceil a c (cond (eqb (a % c) 0) (a / c) (suc (a / c)))
  ceil = go (a / c) (a % c) whole (mod-lt a C) (eqb (a % c) 0) (eqb-true (a % c) 0) (eqb-false (a % c) 0)
    where
      over : (q r : ℕ) → q * c + r ≡ a → r < c → a ≤ q * c + c
      over q r e l = omega arith

      next : (q r : ℕ) → q * c + r ≡ a → (r ≡ 0 → ⊥) → q * c + c < a + c
      next q r e n = omega arith

      go : (q r : ℕ) → q * c + r ≡ a → r < c → (t : Bool) → (t ≡ true → r ≡ 0) → (t ≡ false → r ≡ 0 → ⊥) → Ceil a c (cond t q (suc q))
      go q r e l true z n = let y : r ≡ 0 = z refl in (omega arith, omega arith)
      go q r e l false z n =
          (le_trans (over q r e l) (le_of_eq (sym (suc-mul q c))), lt_of_le_of_lt (le_of_eq (suc-mul q c)) (next q r e (n refl)))

  -- rounding to a whole number gives the one that the mode names
  pub cut_Names : (mode : Rounding) (s : Bool) → Names mode s a c (cut_to mode s a c)
  cut_Names Nearest s = Near-at a c (a / c) (a % c) (compare (a % c * 2) c) C (cmp (a % c * 2) c) whole (mod-lt a C)
  cut_Names Up false = ceil
  cut_Names Up true = floor
  cut_Names Down false = floor
  cut_Names Down true = ceil
  cut_Names Zero s = floor
