-- Shifts by a variable, and a bit as a bool.
use mathlib.Core.Path.{◌≡◌, refl, ◌∙◌, ap, sym}
use mathlib.Core.Bool.{false, not}
use Prim.Native.Nat.{ℕ, zero, suc, ◌+◌, ◌-◌, ◌*◌, ◌/◌, ◌%◌, ◌^◌, ◌<◌}
use native.Mathlib.Omega.{arith}
use native.Mathlib.Nat.{one-mul, mod-lt, mod-eq_of_lt, lt_of_lt_of_le, lt_of_le_of_lt, div-le_self, div-eq_of_lt}
use lib.Dec.{lit<, eqb}
use lib.Pow.{shl_exact, pow_mono}
use lib.Bits.{bit_and, and_mask}
use Rattle.bits.specs.Field.{field, bit_of}

-- 1 << k loses nothing
pub one_shl : (k : ℕ) → k < 32 → (1 * 2 ^ k) % 2 ^ 32 ≡ 2 ^ k
one_shl k h = shl_exact {a = 1} 1 k 32 (lit< tt) (omega arith) ∙ one-mul _

-- a word has no bits from bit 32 on
none_above : (w n : ℕ) → w < 2 ^ 32 → 31 < n → w / 2 ^ n ≡ 0
none_above w n h g = div-eq_of_lt (lt_of_lt_of_le h (pow_mono {i = 32} g))

pub field_above : (w lo hi : ℕ) → w < 2 ^ 32 → 31 < lo → 0 ≡ field w lo hi
field_above w lo hi h g = rw (none_above w lo h g) (sym (mod-eq_of_lt (pow_pos' (hi + 1 - lo))))
  where
    pow_pos' : (k : ℕ) → 0 < 2 ^ k
    pow_pos' k = lt_of_lt_of_le (lit< tt) (pow_mono {i = 0} (omega arith))

-- an empty field
pub field_none : (w lo hi : ℕ) → hi < lo → 0 ≡ field w lo hi
field_none w lo hi h = let e : hi + 1 - lo ≡ 0 = omega arith in rw e (sym (mod_one' (w / 2 ^ lo)))
  where
    mod_one' : (x : ℕ) → x % 2 ^ 0 ≡ 0
    mod_one' x = omega arith

-- a field of 32 bits or more is all that is left
pub field_rest : (w lo hi : ℕ) → w < 2 ^ 32 → 30 < hi - lo → w / 2 ^ lo ≡ field w lo hi
field_rest w lo hi h g = sym (mod-eq_of_lt (lt_of_lt_of_le (lt_of_le_of_lt (div-le_self w (2 ^ lo)) h) (pow_mono {i = 32} (omega arith))))

pub bit_above : (w n : ℕ) → w < 2 ^ 32 → 31 < n → false ≡ bit_of w n
bit_above w n h g = rw (none_above w n h g)

-- what is below 2 and not 0 is 1
not-zero : (k : ℕ) → k < 2 → not (eqb k 0) ≡ eqb k 1
not-zero zero h = refl
not-zero (suc zero) h = refl
not-zero (suc (suc k)) h = absurd (omega arith)

-- the low bit, tested by a mask
pub low_bit : (x : ℕ) → not (eqb (bit_and x 1) 0) ≡ eqb (x % 2) 1
low_bit x = ap (λ (y : ℕ). not (eqb y 0)) (and_mask x 1) ∙ not-zero (x % 2) (mod-lt x (lit< tt))
