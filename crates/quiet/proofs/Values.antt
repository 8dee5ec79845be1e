-- What sum, difference, product and quotient raise, by the result's word. Over the format. Assumes nothing.
use Rattle.std.proofs.Common.{◌≡◌, ℕ, ◌*◌, ◌%◌, ◌^◌, ◌<◌, ◌≤◌, Bool, true, false, cond, ◌||◌, eqb, leb, ◌⊎◌, sym, refl, ap, ◌∙◌, subst, inl, inr, le_of_eq, mul_comm, mul-pos, zero-mul, not-le_of_lt, arith, lit<, lit≤, pow_pos}
use mathlib.Core.Bool.{beq}
use borrow.Author.Tests.{eqb-false}
use lib.Ieee.{Float, nan, inf, fin, Format, binary32, binary64, low, hid, ones, top, up, down, unlike, neg, of_bits, to_bits, nan_bits}
use lib.Ieee.Fits.{down_pos, up_pos}
use Rattle.rounding.specs.declared.rounding.Rounding.{Rounding}
use Rattle.rounding.specs.declared.rounding.Rounding.TheVariants.{Nearest}
use Rattle.rounding.specs.Rounding.{rounded}
use Rattle.operators.specs.Operators.{sum_size, sum_sign, sum, difference, product, quotient}
use Rattle.nans.specs.Nan.{operated, nan_of}
use Rattle.exceptions.specs.Exceptions.{invalid, division_by_zero, fraction_exceptions}
use Rattle.exceptions.specs.Operators.{sum_exceptions, difference_exceptions, product_exceptions, quotient_exceptions, operated_exceptions}
use Rattle.packing.proofs.Formed.{word_rest}
use Rattle.operators.proofs.Words.{sized, zero_settles, zero_size}
use Rattle.nans.proofs.Choosing.{nan_of_nan, no_nan, numbers_operated, nans_operated}
use Rattle.exceptions.proofs.Values.{product_settles}
use Rattle.exceptions.proofs.Nans.{numbers_raise}
use Rattle.quiet.specs.Quiet.{Within, IsFinite, IsZero, Quiet}
use Rattle.quiet.proofs.Fractions.{fraction_Quiet}

-- ---- NaNs and infinities are neither within nor zeros

nan_rest : (f : Format) → ones f * hid f ≤ to_bits f nan % top f
unfolding to_bits
nan_rest binary32 = lit≤ tt
nan_rest binary64 = lit≤ tt

inf_rest : (f : Format) (s : Bool) → ones f * hid f ≤ to_bits f (inf s) % top f
unfolding to_bits
inf_rest f s = le_of_eq (sym (word_rest f s (ones f * hid f) (ones-lt f)))
  where
    ones-lt : (f : Format) → ones f * hid f < top f
    ones-lt binary32 = lit< tt
    ones-lt binary64 = lit< tt

-- ---- the operators on values

chosen : (f : Format) (b : Bool) (v : Float) (x : ℕ) → x ≡ 0 → Within f (to_bits f (cond b nan v)) → Quiet (cond b invalid x)
chosen f true v x e h = absurd (not-le_of_lt h.1 (nan_rest f))
chosen f false v x e h = inl e

pub sum-Quiet : (f : Format) (x y : Float) → Within f (to_bits f (sum Nearest f x y)) → Quiet (sum_exceptions Nearest f x y)
unfolding sum sum_exceptions
sum-Quiet f nan y h = inl refl
sum-Quiet f (inf s) nan h = inl refl
sum-Quiet f (inf s) (inf t) h = go (beq s t) h
  where
    go : (b : Bool) → Within f (to_bits f (cond b (inf s) nan)) → Quiet (cond b 0 invalid)
    go true h = inl refl
    go false h = absurd (not-le_of_lt h.1 (nan_rest f))
sum-Quiet f (inf s) (fin t n d) h = inl refl
sum-Quiet f (fin s m e) nan h = inl refl
sum-Quiet f (fin s m e) (inf t) h = inl refl
sum-Quiet f (fin s m e) (fin t n d) h =
    fraction_Quiet f (sum_sign Nearest s (m * up e * down d) t (n * up d * down e)) (sum_size s (m * up e * down d) t (n * up d * down e)) (down e * down d) (mul-pos (down_pos e) (down_pos d)) h

pub difference-Quiet : (f : Format) (x y : Float) → Within f (to_bits f (difference Nearest f x y)) → Quiet (difference_exceptions Nearest f x y)
unfolding difference difference_exceptions
difference-Quiet f x y h = sum-Quiet f x (neg y) h

pub product-Quiet : (f : Format) (x y : Float) → Within f (to_bits f (product Nearest f x y)) → Quiet (product_exceptions Nearest f x y)
unfolding product product_exceptions
product-Quiet f nan y h = inl refl
product-Quiet f (inf s) nan h = inl refl
product-Quiet f (inf s) (inf t) h = inl refl
product-Quiet f (inf s) (fin t n d) h = chosen f (eqb n 0) (inf (unlike s t)) 0 refl h
product-Quiet f (fin s m e) nan h = inl refl
product-Quiet f (fin s m e) (inf t) h = chosen f (eqb m 0) (inf (unlike s t)) 0 refl h
product-Quiet f (fin s m e) (fin t n d) h = fraction_Quiet f (unlike s t) (m * up e * (n * up d)) (down e * down d) (mul-pos (down_pos e) (down_pos d)) h

pub quotient-Quiet : (f : Format) (x y : Float) → Within f (to_bits f (quotient Nearest f x y)) → Quiet (quotient_exceptions Nearest f x y)
unfolding quotient quotient_exceptions
quotient-Quiet f nan y h = inl refl
quotient-Quiet f (inf s) nan h = inl refl
quotient-Quiet f (inf s) (inf t) h = absurd (not-le_of_lt h.1 (nan_rest f))
quotient-Quiet f (inf s) (fin t n d) h = inl refl
quotient-Quiet f (fin s m e) nan h = inl refl
quotient-Quiet f (fin s m e) (inf t) h = inl refl
quotient-Quiet f (fin s m e) (fin t n d) h = go (eqb n 0) (λ (z : eqb n 0 ≡ false). some n (eqb-false n 0 z)) h
  where
    some : (n : ℕ) → (n ≡ 0 → ⊥) → 0 < n
    some n h = omega arith

    zeros : (b : Bool) → Within f (to_bits f (cond b nan (inf (unlike s t)))) → Quiet (cond b invalid division_by_zero)
    zeros true h = absurd (not-le_of_lt h.1 (nan_rest f))
    zeros false h = absurd (not-le_of_lt h.1 (inf_rest f (unlike s t)))

    go : (b : Bool) → (b ≡ false → 0 < n) → Within f (to_bits f (cond b (cond (eqb m 0) nan (inf (unlike s t))) (rounded Nearest f (unlike s t) (m * up e * down d) (n * up d * down e))))
        → Quiet (cond b (cond (eqb m 0) invalid division_by_zero) (fraction_exceptions Nearest f (unlike s t) (m * up e * down d) (n * up d * down e)))
    go true z h = zeros (eqb m 0) h
    go false z h = fraction_Quiet f (unlike s t) (m * up e * down d) (n * up d * down e) (mul-pos (mul-pos (z refl) (up_pos d)) (down_pos e)) h

-- ---- on words

pub operated-Quiet : (f : Format) (control : ℕ) (op : Float → Float → Float) (raise : Float → Float → ℕ) (a b : ℕ) → ((x y : Float) → Within f (to_bits f (op x y)) → Quiet (raise x y)) → a < 2 * top f → b < 2 * top f
    → Within f (operated f control op a b) → Quiet (operated_exceptions f raise a b)
operated-Quiet f control op raise a b q A B h = by (nan_bits f a || nan_bits f b) refl
  where
    less : (x y : ℕ) → x < y → y < x → ⊥
    less x y l m = omega arith

    by : (t : Bool) → (nan_bits f a || nan_bits f b) ≡ t → Quiet (operated_exceptions f raise a b)
    by true e =
        let w : Within f (nan_of f control a b) = subst (Within f) (sym (nans_operated f control op a b (nan_bits f a) (nan_bits f b) refl refl e)) h in
        absurd (less (ones f * hid f) (nan_of f control a b % top f) (nan_of_nan f control a b A B e).0 w.1)
    by false e =
        subst Quiet (numbers_raise f raise a b (nan_bits f a) (nan_bits f b) refl refl e)
        (q (of_bits f a) (of_bits f b) (subst (Within f) (sym (numbers_operated f control op a b (nan_bits f a) (nan_bits f b) refl refl e)) h))

-- finite words are no NaNs
pub both_numbers : (f : Format) (a b : ℕ) → IsFinite f a → IsFinite f b → (nan_bits f a || nan_bits f b) ≡ false
both_numbers f a b h k = ap (λ (t : Bool). t || nan_bits f b) (no_nan f a (before (a % top f) (ones f * hid f) h)) ∙ no_nan f b (before (b % top f) (ones f * hid f) k)
  where
    before : (x y : ℕ) → x < y → x ≤ y
    before x y l = omega arith

-- ---- a zero operand of a product raises nothing, in any mode

module _ (mode : Rounding) (f : Format) (a b : ℕ) (h : IsFinite f a) (k : IsFinite f b) where
  pub product_zero : IsZero f a ⊎ IsZero f b → product_exceptions mode f (of_bits f a) (of_bits f b) ≡ 0
  product_zero (inl z) =
      let q = sized f b k in
      sym (product_settles mode f (of_bits f a) (of_bits f b) (leb (top f) a) (leb (top f) b) 0 1 q.size (2 ^ low f) _ true false false (lit< tt) (pow_pos (low f)) (zero_size f a z) q.value
      (zero_settles mode f (unlike (leb (top f) a) (leb (top f) b)) (0 * q.size) (1 * 2 ^ low f) (mul-pos (lit< tt) (pow_pos (low f))) (zero-mul q.size))).1
  product_zero (inr z) =
      let p = sized f a h in
      sym (product_settles mode f (of_bits f a) (of_bits f b) (leb (top f) a) (leb (top f) b) p.size (2 ^ low f) 0 1 _ true false false (pow_pos (low f)) (lit< tt) p.value (zero_size f b z)
      (zero_settles mode f (unlike (leb (top f) a) (leb (top f) b)) (p.size * 0) (2 ^ low f * 1) (mul-pos (pow_pos (low f)) (lit< tt)) (mul_comm p.size 0 ∙ zero-mul p.size))).1
  -- a sum that is a zero is exact: both operands are whole smallest values
