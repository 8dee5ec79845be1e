-- Flush to zero: what it leaves alone, and what it does to the value. Over the format. Assumes nothing.
use Rattle.std.proofs.Common.{◌≡◌, ℕ, suc, ◌+◌, ◌-◌, ◌*◌, ◌/◌, ◌%◌, ◌^◌, ◌<◌, ◌≤◌, Bool, true, false, cond, ◌&&◌, ltb, leb, ◌⊎◌, pos, sym, refl, ap, ◌∙◌, subst, inl, inr, le_trans, le_of_eq, lt_of_lt_of_le, le_of_suc-le-suc, lt_of_le_of_lt, add-zero, mul-le-mul_right, mod-lt, zero-lt-suc, mul_comm, div-lt_iff_lt-mul, eq-zero-or-pos, lt_of_mul-lt-mul_right, eq-or-lt_of_le, mul-le-mul_left, mul-lt-mul_of_pos_right, mul-pos, one-mul, lt_of_not-le, div-add-mod', le-div_iff_mul-le, mul-one, mul_right_comm, le_of_mul-le-mul_right, arith, pow_pos, le-ltb, lt-ltb, eq-eqb, ne_eqb}
use native.Mathlib.Nat.{div-eq_of_lt}
use native.Mathlib.Decide.{dec_lt}
use lib.Ieee.{Float, nan, inf, fin, Format, binary32, binary64, emax, low, up, down, hid, ones, top, of_bits}
use lib.Ieee.Fits.{down_pos}
use lib.Ieee.Exact.{HasValue}
use Rattle.floats.specs.Flush.{flushes, flush, flushed}
use Rattle.floats.proofs.Units.{hid_pos, sign_bit, reads_low, reads_mid, reads_inf}
use Rattle.floats.proofs.Patterns.{nan_of_fields}

-- ---- by the tests that the code makes

flush_is : (f : Format) (control b : ℕ) (x y : Bool) → flushes control ≡ x → ltb (b % top f) (hid f) ≡ y → flush f control b ≡ cond (x && y) (b / top f * top f) b
unfolding flush
flush_is f control b x y p q =
    ap (λ (u : Bool). cond (u && ltb (b % top f) (hid f)) (b / top f * top f) b) p
    ∙ ap (λ (u : Bool). cond (x && u) (b / top f * top f) b) q

off : (z : ℕ) → z ≡ 0 → z ≡ 1 → ⊥
off z e d = omega arith

on : (z : ℕ) → (z % 2 ≡ 0 → ⊥) → z % 2 ≡ 1
on z h = omega arith

pub flush_off : (f : Format) (control b : ℕ) → control / 2 ^ 24 % 2 ≡ 0 → b ≡ flush f control b
flush_off f control b h = sym (flush_is f control b false (ltb (b % top f) (hid f)) (ne_eqb (control / 2 ^ 24 % 2) 1 (off (control / 2 ^ 24 % 2) h)) refl)

pub flush_small : (f : Format) (control b : ℕ) → (control / 2 ^ 24 % 2 ≡ 0 → ⊥) → b % top f < hid f → b / top f * top f ≡ flush f control b
flush_small f control b h l = sym (flush_is f control b true true (eq-eqb (control / 2 ^ 24 % 2) 1 (on (control / 2 ^ 24) h)) (lt-ltb (b % top f) (hid f) l))

either : {x y : ℕ} (b : Bool) → x ≡ y → cond b x y ≡ y
either true e = e
either false e = refl

stays : (x y : ℕ) (b : Bool) → cond (b && false) x y ≡ y
stays x y true = refl
stays x y false = refl

pub flush_large : (f : Format) (control b : ℕ) → hid f ≤ b % top f → b ≡ flush f control b
flush_large f control b l = sym (flush_is f control b (flushes control) false refl (le-ltb (b % top f) (hid f) l) ∙ stays (b / top f * top f) b (flushes control))

-- ---- a pattern that is no subnormal's stays

abbrev pub NotSubnormal : Format → ℕ → Type 0
NotSubnormal f b = (b % top f ≡ 0) ⊎ (hid f ≤ b % top f)

pub flush_none : (f : Format) (control b : ℕ) → NotSubnormal f b → flush f control b ≡ b
flush_none f control b (inl z) =
    flush_is f control b (flushes control) (ltb (b % top f) (hid f)) refl refl
    ∙ either (flushes control && ltb (b % top f) (hid f)) (sym (add-zero (b / top f * top f)) ∙ ap (λ (x : ℕ). b / top f * top f + x) (sym z) ∙ div-add-mod' b (top f))
flush_none f control b (inr l) = sym (flush_large f control b l)

top_pos : (f : Format) → 0 < top f
top_pos f = mul-pos (hid_pos f) (zero-lt-suc (ones f))

-- ---- on values

zero_word : (f : Format) (s : Bool) → of_bits f (cond s (top f) 0) ≡ fin s 0 (pos 0)
unfolding of_bits
zero_word binary32 true = refl
zero_word binary32 false = refl
zero_word binary64 true = refl
zero_word binary64 false = refl

-- the smallest normal value is hid of the smallest values
smallest : (f : Format) → hid f * 2 ^ (emax f - 1) ≡ 2 ^ low f
smallest binary32 = refl
smallest binary64 = refl

flushed_small : (f : Format) (v : Float) (s : Bool) (a c : ℕ) → HasValue v s a c → a * 2 ^ (emax f - 1) < c → flushed f v ≡ fin s 0 (pos 0)
flushed_small f nan s a c v l = absurd v
flushed_small f (inf t) s a c v l = absurd v
flushed_small f (fin t m e) s a c v l =
    ap (λ (b : Bool). cond b (fin t 0 (pos 0)) (fin t m e)) (lt-ltb (m * up e * 2 ^ (emax f - 1)) (down e)
    (lt_of_mul-lt-mul_right c (subst (λ (x : ℕ). x < down e * c) (sym (scale (emax f - 1) v.1)) (lt_of_lt_of_le (mul-lt-mul_of_pos_right l (down_pos e)) (le_of_eq (mul_comm c (down e)))))))
    ∙ ap (λ (b : Bool). fin b 0 (pos 0)) v.0
  where
    scale : (E : ℕ) → m * up e * c ≡ a * down e → m * up e * 2 ^ E * c ≡ a * 2 ^ E * down e
    scale E h = mul_right_comm (m * up e) (2 ^ E) c ∙ ap (λ (x : ℕ). x * 2 ^ E) h ∙ mul_right_comm a (down e) (2 ^ E)

flushed_large : (f : Format) (v : Float) (s : Bool) (a c : ℕ) → 0 < c → HasValue v s a c → c ≤ a * 2 ^ (emax f - 1) → flushed f v ≡ v
flushed_large f nan s a c C v l = absurd v
flushed_large f (inf t) s a c C v l = absurd v
flushed_large f (fin t m e) s a c C v l =
    ap (λ (b : Bool). cond b (fin t 0 (pos 0)) (fin t m e)) (le-ltb (m * up e * 2 ^ (emax f - 1)) (down e)
    (le_of_mul-le-mul_right (le_trans (le_of_eq (mul_comm (down e) c)) (le_trans (mul-le-mul_right (down e) l) (le_of_eq (sym (scale (emax f - 1) v.1))))) C))
  where
    scale : (E : ℕ) → m * up e * c ≡ a * down e → m * up e * 2 ^ E * c ≡ a * 2 ^ E * down e
    scale E h = mul_right_comm (m * up e) (2 ^ E) c ∙ ap (λ (x : ℕ). x * 2 ^ E) h ∙ mul_right_comm a (down e) (2 ^ E)

-- what is smaller than the smallest normal value becomes the zero of its sign, and all else stays
pub flush_value : (f : Format) (control b : ℕ) → b < 2 * top f → of_bits f (flush f control b) ≡ cond (flushes control) (flushed f (of_bits f b)) (of_bits f b)
flush_value f control b h = go (flushes control) refl
  where
    field : ℕ
    field = b % top f / hid f

    tiny : b % top f < hid f → flushes control ≡ true → of_bits f (flush f control b) ≡ flushed f (of_bits f b)
    tiny l p =
        ap (of_bits f) (flush_is f control b true true p (lt-ltb (b % top f) (hid f) l) ∙ sign_bit (top f) b (top f) (top_pos f) h)
        ∙ zero_word f (leb (top f) b)
        ∙ sym (flushed_small f (of_bits f b) (leb (top f) b) (b % hid f * 2 ^ 0) (2 ^ low f) (reads_low f b (div-eq_of_lt l))
        (lt_of_le_of_lt (le_of_eq (ap (λ (x : ℕ). x * 2 ^ (emax f - 1)) (mul-one (b % hid f)))) (lt_of_lt_of_le (mul-lt-mul_of_pos_right (mod-lt b (hid_pos f)) (pow_pos (emax f - 1))) (le_of_eq (smallest f)))))

    normal : (x : ℕ) → b % top f / hid f ≡ suc x → suc x ≤ ones f → flushed f (of_bits f b) ≡ of_bits f b
    normal x e l = elim (eq-or-lt_of_le l) [
      | inr g ↦
          flushed_large f (of_bits f b) (leb (top f) b) ((hid f + b % hid f) * 2 ^ x) (2 ^ low f) (pow_pos (low f)) (reads_mid f b x e g)
          (le_trans (le_of_eq (sym (smallest f))) (mul-le-mul_right (2 ^ (emax f - 1)) (le_trans (le_of_eq (sym (mul-one (hid f)))) (wider x))))
      | inl g ↦ special (eq-zero-or-pos (b % hid f)) (e ∙ g)
    ]
      where
        grow : (h t : ℕ) → h ≤ h + t
        grow h t = omega arith

        wider : (x : ℕ) → hid f * 1 ≤ (hid f + b % hid f) * 2 ^ x
        wider x = le_trans (mul-le-mul_right 1 (grow (hid f) (b % hid f))) (mul-le-mul_left (hid f + b % hid f) (pow_pos x))

        special : (b % hid f ≡ 0) ⊎ (0 < b % hid f) → b % top f / hid f ≡ ones f → flushed f (of_bits f b) ≡ of_bits f b
        special (inl z) g = ap (flushed f) (reads_inf f b g z) ∙ sym (reads_inf f b g z)
        special (inr p) g = ap (flushed f) (nan_of_fields f b g (pos_ne p)) ∙ sym (nan_of_fields f b g (pos_ne p))
          where
            pos_ne : {x : ℕ} → 0 < x → x ≡ 0 → ⊥
            pos_ne p z = omega arith

    large : hid f ≤ b % top f → of_bits f (flush f control b) ≡ flushed f (of_bits f b)
    large l = ap (of_bits f) (sym (flush_large f control b l)) ∙ sym (normal (field - 1) (back field some) (subst (λ (x : ℕ). x ≤ ones f) (back field some) within))
      where
        some : 0 < b % top f / hid f
        some = (le-div_iff_mul-le (hid_pos f)).1 (le_trans (le_of_eq (one-mul (hid f))) l)

        within : b % top f / hid f ≤ ones f
        within = le_of_suc-le-suc ((div-lt_iff_lt-mul (hid_pos f)).1 (subst (λ (a : ℕ). b % top f < a) (mul_comm (hid f) (suc (ones f))) (mod-lt b (top_pos f))))

        back : (x : ℕ) → 0 < x → x ≡ suc (x - 1)
        back x p = omega arith

    go : (x : Bool) → flushes control ≡ x → of_bits f (flush f control b) ≡ cond x (flushed f (of_bits f b)) (of_bits f b)
    go false p = ap (of_bits f) (flush_is f control b false (ltb (b % top f) (hid f)) p refl)
    go true p = by (dec_lt (b % top f) (hid f))
      where
        by : Dec (b % top f < hid f) → of_bits f (flush f control b) ≡ flushed f (of_bits f b)
        by (yes l) = tiny l p
        by (no n) = large (le_of_suc-le-suc (lt_of_not-le n))
