-- Widening a single: what its pattern's fields become in the double of the same value. Assumes nothing.
use mathlib.Core.Path.{◌≡◌, refl, sym, ap, ◌∙◌}
use mathlib.Core.Logic.{inl, inr}
use mathlib.Core.Bool.{Bool, cond}
use Prim.Native.Nat.{ℕ, suc, ◌+◌, ◌-◌, ◌*◌, ◌/◌, ◌%◌, ◌^◌, ◌≤◌, ◌<◌}
use native.Mathlib.Nat.{mul_assoc, add-zero, zero-add, mod-eq_of_lt, lt_of_lt_of_le}
use native.Mathlib.Omega.{arith}
use lib.Dec.{leb, lit≤, lit<}
use lib.Pow.{pow-add, pow_pos}
use lib.Ieee.{Float, binary32, binary64, low, top, of_bits, to_bits}
use lib.Ieee.Exact.{HasValue}
use Rattle.rounding.specs.Lift.{Lifted}
use Rattle.floats.proofs.Units.{writes, reads_low, reads_mid, reads_inf, rescale, slide, sign_bit}
use Rattle.nans.specs.Nan.{resized}
use Rattle.nans.proofs.Choosing.{no_nan, a_nan}
use Rattle.widths.specs.Convert.{widen_number, widen}

-- ---- the same value as a double

-- 2 ^ -149 is 2 ^ 925 of the double's smallest values
wider : (v : Float) (s : Bool) (a q k : ℕ) → HasValue v s a (2 ^ low binary32) → a * 2 ^ 925 ≡ q * 2 ^ k → HasValue v s (q * 2 ^ k) (2 ^ low binary64)
wider v s a q k h e =
    rescale v s a (2 ^ 149) (q * 2 ^ k) (2 ^ 1074) (pow_pos 149)
    (ap (λ (x : ℕ). a * x) (pow-add 2 925 149) ∙ sym (mul_assoc a (2 ^ 925) (2 ^ 149)) ∙ ap (λ (x : ℕ). x * 2 ^ 149) e) h

abbrev signed : ℕ → ℕ
signed b = b / 0x8000_0000 * 0x8000_0000_0000_0000

signed_is : (b : ℕ) → b < 2 ^ 32 → signed b ≡ cond (leb (top binary32) b) (top binary64) 0
signed_is b h = sign_bit 0x8000_0000 b 0x8000_0000_0000_0000 (lit< tt) h

pub wide_inf : (b : ℕ) → b < 2 ^ 32 → b % 0x8000_0000 / 0x80_0000 ≡ 255 → b % 0x80_0000 ≡ 0 → signed b + 0x7FF0_0000_0000_0000 ≡ to_bits binary64 (of_bits binary32 b)
unfolding to_bits
wide_inf b h x t = ap (λ (y : ℕ). y + 0x7FF0_0000_0000_0000) (signed_is b h) ∙ sym (ap (to_bits binary64) (reads_inf binary32 b x t))

-- a normal value: 29 more digits, and the exponents' fields are 896 apart
digits_lt : (t : ℕ) → t < 0x80_0000 → (0x80_0000 + t) * 0x2000_0000 < 0x20_0000_0000_0000
digits_lt t h = omega arith

digits_ge : (t : ℕ) → 0x10_0000_0000_0000 ≤ (0x80_0000 + t) * 0x2000_0000
digits_ge t = omega arith

apart : (x : ℕ) → x + 925 ≡ 29 + (x + 896)
apart x = omega arith

field_is : (x : ℕ) → suc x + 895 ≡ x + 896
field_is x = omega arith

pub wide_mid : (b : ℕ) → b < 2 ^ 32 → 0 < b % 0x8000_0000 / 0x80_0000 → (b % 0x8000_0000 / 0x80_0000 ≡ 255 → ⊥)
    → signed b + ((b % 0x8000_0000 / 0x80_0000 + 895) * 0x10_0000_0000_0000 + (0x80_0000 + b % 0x80_0000) * 0x2000_0000) ≡ to_bits binary64 (of_bits binary32 b)
wide_mid b h p n = go (b % 0x8000_0000 / 0x80_0000 - 1) (back (b % 0x8000_0000 / 0x80_0000) p) (under b n)
  where
    back : (x : ℕ) → 0 < x → x ≡ suc (x - 1)
    back x p = omega arith

    under : (b : ℕ) → (b % 0x8000_0000 / 0x80_0000 ≡ 255 → ⊥) → suc (b % 0x8000_0000 / 0x80_0000 - 1) < 255
    under b n = omega arith

    rest : (b : ℕ) → b % 0x80_0000 < 0x80_0000
    rest b = omega arith

    go : (x : ℕ) → b % 0x8000_0000 / 0x80_0000 ≡ suc x → suc x < 255
        → signed b + ((b % 0x8000_0000 / 0x80_0000 + 895) * 0x10_0000_0000_0000 + (0x80_0000 + b % 0x80_0000) * 0x2000_0000) ≡ to_bits binary64 (of_bits binary32 b)
    go x e l =
        let q = (0x80_0000 + b % 0x80_0000) * 2 ^ 29 in
        ap (λ (y : ℕ). y + ((b % 0x8000_0000 / 0x80_0000 + 895) * 0x10_0000_0000_0000 + q)) (signed_is b h)
        ∙ ap (λ (y : ℕ). cond (leb (top binary32) b) (top binary64) 0 + (y * 0x10_0000_0000_0000 + q)) (ap (λ (y : ℕ). y + 895) e ∙ field_is x)
        ∙ sym (writes binary64 (of_bits binary32 b) (leb (top binary32) b) q (x + 896)
        (wider (of_bits binary32 b) (leb (top binary32) b) ((0x80_0000 + b % 0x80_0000) * 2 ^ x) q (x + 896) (reads_mid binary32 b x e l) (slide (0x80_0000 + b % 0x80_0000) x 925 29 (x + 896) (apart x)))
        (digits_lt (b % 0x80_0000) (rest b))
        (inr (digits_ge (b % 0x80_0000))))

-- its pattern as it stands
pub wide_normal : (b : ℕ) → b < 2 ^ 32 → 0x80_0000 ≤ b % 0x8000_0000 → b % 0x8000_0000 < 0x7F80_0000
    → signed b + (b % 0x8000_0000 * 0x2000_0000 + 0x3800_0000_0000_0000) ≡ to_bits binary64 (of_bits binary32 b)
wide_normal b h g l = ap (λ (y : ℕ). signed b + y) (same b) ∙ wide_mid b h (some b g) (under b l)
  where
    same : (b : ℕ) → b % 0x8000_0000 * 0x2000_0000 + 0x3800_0000_0000_0000 ≡ (b % 0x8000_0000 / 0x80_0000 + 895) * 0x10_0000_0000_0000 + (0x80_0000 + b % 0x80_0000) * 0x2000_0000
    same b = omega arith

    some : (b : ℕ) → 0x80_0000 ≤ b % 0x8000_0000 → 0 < b % 0x8000_0000 / 0x80_0000
    some b g = omega arith

    under : (b : ℕ) → b % 0x8000_0000 < 0x7F80_0000 → b % 0x8000_0000 / 0x80_0000 ≡ 255 → ⊥
    under b l e = omega arith

pub wide_zero : (b : ℕ) → b < 2 ^ 32 → b % 0x8000_0000 / 0x80_0000 ≡ 0 → b % 0x80_0000 ≡ 0 → signed b ≡ to_bits binary64 (of_bits binary32 b)
wide_zero b h x t =
    signed_is b h
    ∙ sym (add-zero (cond (leb (top binary32) b) (top binary64) 0))
    ∙ sym (writes binary64 (of_bits binary32 b) (leb (top binary32) b) 0 0
    (wider (of_bits binary32 b) (leb (top binary32) b) (b % 0x80_0000 * 2 ^ 0) 0 0 (reads_low binary32 b x) (ap (λ (y : ℕ). y * 2 ^ 0 * 2 ^ 925) t))
    (lit< tt) (inl refl))

join : (r : ℕ) → r ≤ 52 → 925 ≡ r + (925 - r)
join r h = omega arith

-- a subnormal, moved up r places
pub wide_low : (b r : ℕ) → b < 2 ^ 32 → b % 0x8000_0000 / 0x80_0000 ≡ 0 → Lifted (b % 0x80_0000) r
    → signed b + ((925 - r) * 0x10_0000_0000_0000 + b % 0x80_0000 * 2 ^ r % 2 ^ 64) ≡ to_bits binary64 (of_bits binary32 b)
wide_low b r h x l =
    let t = b % 0x80_0000 in
    let q = t * 2 ^ r in
    ap (λ (y : ℕ). y + ((925 - r) * 0x10_0000_0000_0000 + q % 2 ^ 64)) (signed_is b h)
    ∙ ap (λ (y : ℕ). cond (leb (top binary32) b) (top binary64) 0 + ((925 - r) * 0x10_0000_0000_0000 + y)) (mod-eq_of_lt (lt_of_lt_of_le l.below (lit≤ tt)))
    ∙ sym (writes binary64 (of_bits binary32 b) (leb (top binary32) b) q (925 - r)
    (wider (of_bits binary32 b) (leb (top binary32) b) (t * 2 ^ 0) q (925 - r) (reads_low binary32 b x) (slide t 0 925 r (925 - r) (zero-add 925 ∙ join r l.most)))
    l.below
    (inr l.least))

-- ---- any word

pub widen_number_lem : (control b : ℕ) → b % 0x8000_0000 ≤ 0x7F80_0000 → to_bits binary64 (of_bits binary32 b) ≡ widen control b
unfolding widen widen_number
widen_number_lem control b h = sym (ap (λ (t : Bool). cond t (resized binary32 binary64 control b) (to_bits binary64 (of_bits binary32 b))) (no_nan binary32 b h))

pub widen_nan : (control b r : ℕ) → 0x7F80_0000 < b % 0x8000_0000 → r ≡ resized binary32 binary64 control b → r ≡ widen control b
unfolding widen
widen_nan control b r h e = e ∙ sym (ap (λ (t : Bool). cond t (resized binary32 binary64 control b) (widen_number b)) (a_nan binary32 b h))
