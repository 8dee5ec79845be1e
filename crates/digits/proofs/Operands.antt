-- A word that is finite and not 0 as digits and an exponent. Over the format. Assumes nothing.
use mathlib.Core.Path.{◌≡◌, refl, sym, ap, ◌∙◌, subst}
use mathlib.Core.Bool.{Bool, true, false, ◌&&◌}
use Prim.Native.Nat.{ℕ, ◌+◌, ◌-◌, ◌*◌, ◌/◌, ◌%◌, ◌^◌, ◌≤◌, ◌<◌}
use native.Mathlib.Nat.{mul_assoc, mod-lt, mod-one, mod-eq_of_lt, lt_of_lt_of_le, mul-mod_left, mul-lt-mul_of_pos_right, not-le_of_lt, lt_of_not-le, le_of_suc-le-suc, mul-le-mul_left}
use native.Mathlib.Decide.{dec_lt}
use native.Mathlib.Omega.{arith}
use borrow.Author.Tests.{ltb-true, lt-ltb}
use lib.Dec.{T, leb, ltb}
use lib.Pow.{pow-add, pow_pos, pow_mono}
use lib.Ieee.{Float, Format, binary32, binary64, prec, low, hid, ones, top, of_bits}
use lib.Ieee.Exact.{HasValue}
use Rattle.rounding.specs.Lift.{Lifted}
use Rattle.digits.specs.Digits.{rise, IsNumber, IsOperand}
use Rattle.floats.proofs.Units.{rescale, slide, reads_low, reads_normal}
use Rattle.rounding.proofs.Lifting.{moved_is}

-- how far a normal word's exponent's field and a subnormal's exponent are from the operand's
abbrev pub base : Format → ℕ
base f = 1125 - low f - rise f

abbrev pub last : Format → ℕ
last f = 1126 - low f

-- ---- the test

pub is_number : (f : Format) (b : ℕ) (r : Bool) → r ≡ (ltb 0 (b % top f) && ltb (b % top f) (ones f * hid f)) → r ≡ true → IsNumber f b
is_number f b r e h =
    let x = ltb 0 (b % top f) in
    let y = ltb (b % top f) (ones f * hid f) in
    (ltb-true 0 (b % top f) (left x y (sym e ∙ h)), ltb-true (b % top f) (ones f * hid f) (right x y (sym e ∙ h)))
  where
    left : (x y : Bool) → (x && y) ≡ true → x ≡ true
    left true y h = refl
    left false y h = h

    right : (x y : Bool) → (x && y) ≡ true → y ≡ true
    right true y h = h
    right false true h = refl
    right false false h = h

pub no_number : (f : Format) (b : ℕ) (r : Bool) → r ≡ (ltb 0 (b % top f) && ltb (b % top f) (ones f * hid f)) → r ≡ false → IsNumber f b → ⊥
no_number f b r e h n = differ (sym h ∙ e ∙ ap (λ (x : Bool). x && ltb (b % top f) (ones f * hid f)) (lt-ltb 0 (b % top f) n.0) ∙ lt-ltb (b % top f) (ones f * hid f) n.1)
  where
    differ : false ≡ true → ⊥
    differ e = subst T (sym e) tt

-- ---- the digits

operand_of : (v : Float) (s : Bool) (l q k j m e : ℕ) → HasValue v s (q * 2 ^ k) (2 ^ l) → m ≡ q * 2 ^ j → 2 ^ 52 ≤ m → m < 2 ^ 53 → k + 1126 ≡ j + e + l → e < 2100
    → IsOperand v s m e
operand_of v s l q k j m e h d a b x r = record {
  value =
      rescale v s (q * 2 ^ k) (2 ^ l) (m * 2 ^ e) (2 ^ 1126) (pow_pos l)
      (slide q k 1126 (j + e) l x ∙ ap (λ (z : ℕ). z * 2 ^ l) (ap (λ (z : ℕ). q * z) (pow-add 2 j e) ∙ sym (mul_assoc q (2 ^ j) (2 ^ e)) ∙ ap (λ (z : ℕ). z * 2 ^ e) (sym d))) h;
  least = a;
  below = b;
  range = r;
}

-- a subnormal
pub low_operand : (f : Format) (b up m e : ℕ) → b % top f / hid f ≡ 0 → Lifted (b % hid f) up → m ≡ b % hid f * 2 ^ up → e ≡ last f - up
    → IsOperand (of_bits f b) (leb (top f) b) m e
low_operand f b up m e x p d c =
    operand_of (of_bits f b) (leb (top f) b) (low f) (b % hid f) 0 up m e (reads_low f b x) d
    (subst (λ (z : ℕ). 2 ^ 52 ≤ z) (sym d) p.least) (subst (λ (z : ℕ). z < 2 ^ 53) (sym d) p.below) (exponents f up e p.most c) (few f up e c)
  where
    exponents : (f : Format) (up e : ℕ) → up ≤ 52 → e ≡ last f - up → 0 + 1126 ≡ up + e + low f
    exponents binary32 up e h c = omega arith
    exponents binary64 up e h c = omega arith

    few : (f : Format) (up e : ℕ) → e ≡ last f - up → e < 2100
    few binary32 up e c = omega arith
    few binary64 up e c = omega arith

pub normal_operand : (f : Format) (b m e : ℕ) → (b % top f / hid f ≡ 0 → ⊥) → b % top f < ones f * hid f → m ≡ (hid f + b % hid f) * 2 ^ rise f → e ≡ b % top f / hid f + base f
    → IsOperand (of_bits f b) (leb (top f) b) m e
normal_operand f b m e x h d c =
    operand_of (of_bits f b) (leb (top f) b) (low f) (hid f + b % hid f) (b % top f / hid f - 1) (rise f) m e (reads_normal f b x (under f b h)) d
    (digits f b m d).0 (digits f b m d).1 (exponents f (b % top f / hid f) e x c) (few f b e h c)
  where
    under : (f : Format) (b : ℕ) → b % top f < ones f * hid f → b % top f / hid f ≡ ones f → ⊥
    under binary32 b h e = omega arith
    under binary64 b h e = omega arith

    digits : (f : Format) (b m : ℕ) → m ≡ (hid f + b % hid f) * 2 ^ rise f → (2 ^ 52 ≤ m) × (m < 2 ^ 53)
    digits binary32 b m d = omega arith
    digits binary64 b m d = omega arith

    exponents : (f : Format) (x e : ℕ) → (x ≡ 0 → ⊥) → e ≡ x + base f → x - 1 + 1126 ≡ rise f + e + low f
    exponents binary32 x e n c = omega arith
    exponents binary64 x e n c = omega arith

    few : (f : Format) (b e : ℕ) → b % top f < ones f * hid f → e ≡ b % top f / hid f + base f → e < 2100
    few binary32 b e h c = omega arith
    few binary64 b e h c = omega arith

-- the digits of a subnormal single stand 29 places up, as those of a normal one
pub low_zeros : (t up : ℕ) → t < 2 ^ 23 → Lifted t up → t * 2 ^ up % 2 ^ 64 % 2 ^ 29 ≡ 0
low_zeros t up h p = ap (λ (z : ℕ). z % 2 ^ 29) (moved_is t up p ∙ ap (λ (z : ℕ). t * 2 ^ z) (back up far) ∙ ap (λ (z : ℕ). t * z) (pow-add 2 (up - 29) 29) ∙ sym (mul_assoc t (2 ^ (up - 29)) (2 ^ 29))) ∙ mul-mod_left (t * 2 ^ (up - 29)) (2 ^ 29)
  where
    back : (u : ℕ) → 29 < u → u ≡ u - 29 + 29
    back u h = omega arith

    far : 29 < up
    far = go (dec_lt 29 up)
      where
        go : Dec (29 < up) → 29 < up
        go (yes l) = l
        go (no n) =
            absurd (not-le_of_lt (lt_of_lt_of_le (mul-lt-mul_of_pos_right h (pow_pos up)) (mul-le-mul_left (2 ^ 23) (pow_mono {j = 29} (le_of_suc-le-suc (lt_of_not-le n))))) p.least)

pub normal_zeros : (t : ℕ) → (0x80_0000 + t) * 0x2000_0000 % 2 ^ 29 ≡ 0
normal_zeros t = mul-mod_left (0x80_0000 + t) (2 ^ 29)

-- the digits of a subnormal stand as far up as those of a normal word
pub low_zeros_lem : (f : Format) (n h up : ℕ) → h ≡ hid f → Lifted (n % h) up → n % h * 2 ^ up % 2 ^ 64 % 2 ^ rise f ≡ 0
low_zeros_lem binary32 n h up e p = low_zeros (n % h) up (rw e (mod-lt n (pow_pos 23))) p
low_zeros_lem binary64 n h up e p = mod-one (n % h * 2 ^ up % 2 ^ 64)

-- and a normal word's are moved up with nothing lost
pub normal_digits : (f : Format) (t : ℕ) → t < hid f → (hid f + t) * 2 ^ rise f % 2 ^ 64 ≡ (hid f + t) * 2 ^ rise f
normal_digits binary32 t h = mod-eq_of_lt (omega arith)
normal_digits binary64 t h = mod-eq_of_lt (omega arith)
