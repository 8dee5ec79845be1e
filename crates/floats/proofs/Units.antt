-- A finite value as q * 2 ^ k of its format's smallest values, and the pattern that it is: k * hid + q, with the sign above. Over the format.
-- Assumes nothing.
use Rattle.std.proofs.Common.{◌≡◌, ℕ, suc, ◌+◌, ◌-◌, ◌*◌, ◌/◌, ◌%◌, ◌^◌, ◌<◌, ◌≤◌, Bool, cond, T, eqb, leb, ◌⊎◌, ℤ, pos, sym, refl, ap, ◌∙◌, subst, inl, inr, le_trans, le_of_eq, lt_of_lt_of_le, le_of_suc-le-suc, add_assoc, mul-le-mul_right, mod-lt, zero-lt-suc, mul_assoc, mul_comm, div-lt_iff_lt-mul, le_antisymm, mul-pos, one-mul, lt_of_not-le, le-div_iff_mul-le, zero-mul, mul_right_comm, not-le_of_lt, div-mul-le_self, mul-div_cancel, arith, le→leb, eqb→eq, pow_pos, pow_mono, pow-add}
use native.Mathlib.Nat.{eq_of_mul-eq-mul_right, mod-mod_of_dvd, dvd-mul_right, zero-div, zero-mod}
use native.Mathlib.Decide.{dec_le}
use lib.Arith.{lt→nleb, lt-one}
use lib.Dec.{not_T}
use lib.Ieee.{Float, nan, inf, fin, Format, binary32, binary64, prec, low, up, down, size, odd, hid, ones, top, of_bits, of_fields, to_bits}
use lib.Ieee.Digits.{size-lt, size-le}
use lib.Ieee.Fits.{two, down_pos, two-le_pos}
use lib.Ieee.Bits.{is_true, is_false, cond_no}
use lib.Ieee.Exact.{HasValue, odd_sign}

-- ---- how many digits are dropped

-- the leading digit is in use, or nothing is dropped
abbrev pub Lead : Format → ℕ → ℕ → Type 0
Lead f k q = (k ≡ 0) ⊎ (hid f ≤ q)

pub size_gt : (n j : ℕ) → 2 ^ j ≤ n → j < size n
size_gt n j h = lt_of_not-le (λ (g : size n ≤ j). not-le_of_lt (lt_of_lt_of_le (size-lt n) (pow_mono g)) h)

pub prec_pos : (f : Format) → 0 < prec f
prec_pos f = two-le_pos (prec f) (two f)

pub twice_hid : (f : Format) → 2 ^ prec f ≡ 2 * hid f
twice_hid binary32 = refl
twice_hid binary64 = refl

pub hid_pos : (f : Format) → 0 < hid f
hid_pos f = pow_pos (prec f - 1)

zero_left : (z p k : ℕ) → z ≤ p + k → k ≡ 0 → z - p ≡ k
zero_left z p k h e = omega arith

as_many : (z p k : ℕ) → 0 < p → z ≤ p + k → p - 1 + k < z → z - p ≡ k
as_many z p k P h l = omega arith

-- w's whole part after k digits are cut is q
pub drop_is : (f : Format) (w k : ℕ) → w / 2 ^ k < 2 ^ prec f → Lead f k (w / 2 ^ k) → size w - prec f ≡ k
drop_is f w k h l =
    let most : size w ≤ prec f + k = size-le w (prec f + k) (subst (λ (x : ℕ). w < x) (sym (pow-add 2 (prec f) k)) ((div-lt_iff_lt-mul (pow_pos k)).0 h)) in
    elim l [
      | inl e ↦ zero_left (size w) (prec f) k most e
      | inr g ↦
          as_many (size w) (prec f) k (prec_pos f) most
          (size_gt w (prec f - 1 + k) (le_trans (le_of_eq (pow-add 2 (prec f - 1) k)) (le_trans (mul-le-mul_right (2 ^ k) g) (div-mul-le_self w (2 ^ k)))))
    ]

-- ---- writing

-- q * 2 ^ k smallest values, with q of no more digits than the format keeps, are written k * hid + q
written : (f : Format) (s : Bool) (m : ℕ) (e : ℤ) (n : ℕ) → m * up e * 2 ^ low f ≡ n * down e
    → to_bits f (fin s m e) ≡ cond s (top f) 0 + (size n - prec f) * hid f + n / 2 ^ (size n - prec f)
unfolding to_bits
written f s m e n h =
    ap (λ (x : ℕ). cond s (top f) 0 + (size x - prec f) * hid f + x / 2 ^ (size x - prec f)) (ap (λ (x : ℕ). x / down e) h ∙ mul-div_cancel n (down_pos e))

pub writes : (f : Format) (v : Float) (s : Bool) (q k : ℕ) → HasValue v s (q * 2 ^ k) (2 ^ low f) → q < 2 ^ prec f → Lead f k q
    → to_bits f v ≡ cond s (top f) 0 + (k * hid f + q)
writes f nan s q k v h l = absurd v
writes f (inf t) s q k v h l = absurd v
writes f (fin t m e) s q k v h l =
    let cut : q * 2 ^ k / 2 ^ k ≡ q = mul-div_cancel q (pow_pos k) in
    let d : size (q * 2 ^ k) - prec f ≡ k = drop_is f (q * 2 ^ k) k (subst (λ (x : ℕ). x < 2 ^ prec f) (sym cut) h) (subst (λ (x : ℕ). Lead f k x) (sym cut) l) in
    written f t m e (q * 2 ^ k) v.1
    ∙ ap (λ (x : ℕ). cond t (top f) 0 + x * hid f + q * 2 ^ k / 2 ^ x) d
    ∙ ap (λ (x : ℕ). cond t (top f) 0 + k * hid f + x) cut
    ∙ add_assoc (cond t (top f) 0) (k * hid f) q
    ∙ ap (λ (b : Bool). cond b (top f) 0 + (k * hid f + q)) v.0

-- ---- reading

fields_of : (f : Format) (b : ℕ) → of_bits f b ≡ of_fields f (leb (top f) b) (b % top f / hid f) (b % hid f)
unfolding of_bits
fields_of f b = refl

at_zero : (f : Format) (s : Bool) (t : ℕ) → of_fields f s 0 t ≡ odd (prec f) s t 0 (low f)
unfolding of_fields
at_zero f s t = refl

differ : (x o : ℕ) → x < o → x ≡ o → ⊥
differ x o h e = omega arith

under_ones : (f : Format) (s : Bool) (t x : ℕ) → suc x < ones f → of_fields f s (suc x) t ≡ odd (prec f) s (hid f + t) x (low f)
unfolding of_fields
under_ones f s t x h =
    cond_no (eqb (suc x) (ones f)) (cond (eqb t 0) (inf s) nan) (odd (prec f) s (hid f + t) x (low f))
    (not_T (eqb (suc x) (ones f)) (λ (u : T (eqb (suc x) (ones f))). differ (suc x) (ones f) h (eqb→eq (suc x) (ones f) u)))

-- a subnormal or a zero
pub reads_low : (f : Format) (b : ℕ) → b % top f / hid f ≡ 0 → HasValue (of_bits f b) (leb (top f) b) (b % hid f * 2 ^ 0) (2 ^ low f)
reads_low f b h =
    subst (λ (v : Float). HasValue v (leb (top f) b) (b % hid f * 2 ^ 0) (2 ^ low f))
    (sym (fields_of f b ∙ ap (λ (x : ℕ). of_fields f (leb (top f) b) x (b % hid f)) h ∙ at_zero f (leb (top f) b) (b % hid f)))
    (odd_sign (prec f) (leb (top f) b) (b % hid f) 0 (low f))

-- a normal value
pub reads_mid : (f : Format) (b x : ℕ) → b % top f / hid f ≡ suc x → suc x < ones f → HasValue (of_bits f b) (leb (top f) b) ((hid f + b % hid f) * 2 ^ x) (2 ^ low f)
reads_mid f b x h l =
    subst (λ (v : Float). HasValue v (leb (top f) b) ((hid f + b % hid f) * 2 ^ x) (2 ^ low f))
    (sym (fields_of f b ∙ ap (λ (x : ℕ). of_fields f (leb (top f) b) x (b % hid f)) h ∙ under_ones f (leb (top f) b) (b % hid f) x l))
    (odd_sign (prec f) (leb (top f) b) (hid f + b % hid f) x (low f))

-- an infinity, and a NaN
pub reads_inf : (f : Format) (b : ℕ) → b % top f / hid f ≡ ones f → b % hid f ≡ 0 → of_bits f b ≡ inf (leb (top f) b)
unfolding of_fields
reads_inf binary32 b h t = fields_of binary32 b ∙ ap (λ (x : ℕ). of_fields binary32 (leb (top binary32) b) x (b % hid binary32)) h ∙ ap (λ (x : ℕ). of_fields binary32 (leb (top binary32) b) 255 x) t
reads_inf binary64 b h t = fields_of binary64 b ∙ ap (λ (x : ℕ). of_fields binary64 (leb (top binary64) b) x (b % hid binary64)) h ∙ ap (λ (x : ℕ). of_fields binary64 (leb (top binary64) b) 2047 x) t

-- ---- the same value in other units

pub rescale : (v : Float) (s : Bool) (a l b m : ℕ) → 0 < l → a * m ≡ b * l → HasValue v s a l → HasValue v s b m
rescale nan s a l b m p h v = v
rescale (inf t) s a l b m p h v = v
rescale (fin t x e) s a l b m p h v = (
  v.0,
  eq_of_mul-eq-mul_right l p (x * up e * m) (b * down e)
      (mul_right_comm (x * up e) m l
      ∙ ap (λ (y : ℕ). y * m) v.1
      ∙ mul_right_comm a (down e) m
      ∙ ap (λ (y : ℕ). y * down e) h
      ∙ mul_right_comm b l (down e)),
)

-- powers of two that make the same exponent
pub slide : (a x c i k : ℕ) → x + c ≡ i + k → a * 2 ^ x * 2 ^ c ≡ a * 2 ^ i * 2 ^ k
slide a x c i k e =
    mul_assoc a (2 ^ x) (2 ^ c) ∙ ap (λ (y : ℕ). a * y) (sym (pow-add 2 x c) ∙ ap (λ (y : ℕ). 2 ^ y) e ∙ pow-add 2 i k) ∙ sym (mul_assoc a (2 ^ i) (2 ^ k))

-- the sign's bit, as the quotient by its weight
pub sign_bit : (c b u : ℕ) → 0 < c → b < 2 * c → b / c * u ≡ cond (leb c b) u 0
sign_bit c b u C h = go (dec_le c b)
  where
    one : c ≤ b → b / c ≡ 1
    one l = le_antisymm (le_of_suc-le-suc ((div-lt_iff_lt-mul C).1 h)) ((le-div_iff_mul-le C).1 (le_trans (le_of_eq (one-mul c)) l))

    none : b < c → b / c ≡ 0
    none l = lt-one ((div-lt_iff_lt-mul C).1 (lt_of_lt_of_le l (le_of_eq (sym (one-mul c)))))

    go : Dec (c ≤ b) → b / c * u ≡ cond (leb c b) u 0
    go (yes l) = ap (λ (x : ℕ). x * u) (one l) ∙ one-mul u ∙ sym (ap (λ (t : Bool). cond t u 0) (is_true (leb c b) (le→leb c b l)))
    go (no n) = ap (λ (x : ℕ). x * u) (none (lt_of_not-le n)) ∙ zero-mul u ∙ sym (ap (λ (t : Bool). cond t u 0) (is_false (leb c b) (lt→nleb c b (lt_of_not-le n))))

-- a zero
pub reads_zero : (f : Format) (b : ℕ) → b % top f ≡ 0 → of_bits f b ≡ fin (leb (top f) b) 0 (pos 0)
unfolding odd
reads_zero f b z =
    fields_of f b
    ∙ ap (λ (x : ℕ). of_fields f (leb (top f) b) (x / hid f) (b % hid f)) z
    ∙ ap (λ (x : ℕ). of_fields f (leb (top f) b) x (b % hid f)) (zero-div (hid f))
    ∙ ap (λ (x : ℕ). of_fields f (leb (top f) b) 0 x) (sym (mod-mod_of_dvd (hid f) b (dvd-mul_right (hid f) (suc (ones f)))) ∙ ap (λ (x : ℕ). x % hid f) z ∙ zero-mod (hid f))
    ∙ at_zero f (leb (top f) b) 0

-- a normal value by its field
pub field_le : (f : Format) (b : ℕ) → b % top f / hid f ≤ ones f
field_le f b = le_of_suc-le-suc ((div-lt_iff_lt-mul (hid_pos f)).1 (subst (λ (a : ℕ). b % top f < a) (mul_comm (hid f) (suc (ones f))) (mod-lt b (mul-pos (hid_pos f) (zero-lt-suc (ones f))))))

pub reads_normal : (f : Format) (b : ℕ) → (b % top f / hid f ≡ 0 → ⊥) → (b % top f / hid f ≡ ones f → ⊥)
    → HasValue (of_bits f b) (leb (top f) b) ((hid f + b % hid f) * 2 ^ (b % top f / hid f - 1)) (2 ^ low f)
reads_normal f b n o = reads_mid f b (b % top f / hid f - 1) (back (b % top f / hid f) n) (under (b % top f / hid f) (ones f) n o (field_le f b))
  where
    back : (x : ℕ) → (x ≡ 0 → ⊥) → x ≡ suc (x - 1)
    back x p = omega arith

    under : (x o : ℕ) → (x ≡ 0 → ⊥) → (x ≡ o → ⊥) → x ≤ o → suc (x - 1) < o
    under x o n d h = omega arith
