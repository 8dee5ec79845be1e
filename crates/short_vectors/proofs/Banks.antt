-- Whether a register is beyond bank 0, and the iterations, by arithmetic.
use Prim.Native.Nat.{ℕ, ◌+◌, ◌*◌, ◌/◌, ◌%◌, ◌^◌, ◌<◌, ◌≤◌}
use mathlib.Core.Path.{◌≡◌, refl}
use mathlib.Core.Bool.{Bool, true, false, cond}
use native.Mathlib.Omega.{arith}
use native.Mathlib.Decide.{ℕ_discrete}
use lib.Dec.{ltb}
use lib.Ieee.{Format}
use borrow.Author.Tests.{ltb-true, ltb-false, le-ltb}
use Rattle.short_vectors.specs.Vector.{precision, iterations_of}
use Rattle.registers.specs.Registers.{bank_of}

-- a number that is 0 below the bank and 1 from it on
tested : (d bank n : ℕ) → (d < bank → n ≡ 0) → (bank ≤ d → n ≡ 1) → n ≡ cond (ltb d bank) 0 1
tested d bank n p q = by (ltb d bank) refl
  where
    by : (b : Bool) → ltb d bank ≡ b → n ≡ cond b 0 1
    by true e = p (ltb-true d bank e)
    by false e = q (ltb-false d bank e)

pub far : (d : ℕ) (double : Bool) → 32 ≤ d → ◌≡◌ {A = ℕ} 1 (cond (ltb d (bank_of (precision double))) 0 1)
far d true h = rw (le-ltb d 4 (omega (arith, h)))
far d false h = rw (le-ltb d 8 (omega (arith, h)))

pub doubles_beyond : (d : ℕ) → d < 32 → (d / 4 + 7) / 8 ≡ cond (ltb d 4) 0 1
doubles_beyond d h = tested d 4 ((d / 4 + 7) / 8) (λ l. omega (arith, l)) (λ l. omega (arith, l, h))

pub singles_beyond : (d : ℕ) → d < 32 → (d / 8 + 7) / 8 ≡ cond (ltb d 8) 0 1
singles_beyond d h = tested d 8 ((d / 8 + 7) / 8) (λ l. omega (arith, l)) (λ l. omega (arith, l, h))

pub iterations : (f : Format) (c d x : ℕ) → x ≡ cond (ltb d (bank_of f)) 0 1 → 1 + c / 2 ^ 16 % 8 * x ≡ iterations_of f c d
iterations f c d x e = rw e (by (ltb d (bank_of f)))
  where
    by : (b : Bool) → 1 + c / 2 ^ 16 % 8 * cond b 0 1 ≡ cond b 1 (c / 2 ^ 16 % 8 + 1)
    by true = omega arith
    by false = omega arith

-- the product of the code fits
pub small : (a x : ℕ) → x ≤ 1 → a % 8 * x ≤ 7
small a x h = by (ℕ_discrete x 0)
  where
    by : Dec (x ≡ 0) → a % 8 * x ≤ 7
    by (yes e) = rw e (omega arith)
    by (no n) = let o : x ≡ 1 = omega (arith, n, h) in rw o (omega arith)
