-- The square root of a pattern by its fields. Over the mode and the format. Assumes nothing.
use mathlib.Core.Path.{◌≡◌, refl, sym, ap, ◌∙◌, subst}
use mathlib.Core.Logic.{inl, inr}
use mathlib.Core.Bool.{Bool, true, false, not, ◌&&◌, cond}
use Prim.Native.Nat.{ℕ, zero, suc, ◌+◌, ◌-◌, ◌*◌, ◌/◌, ◌%◌, ◌^◌, ◌≤◌, ◌<◌}
use native.Mathlib.Nat.{le_trans, le_of_eq, lt_of_lt_of_le, zero-mul, zero-add, mul_assoc, mul_comm, mul-pos, mul-le-mul_right, mul-lt-mul_of_pos_right, lt_of_mul-lt-mul_right, le_of_mul-le-mul_right, mul-div_cancel, mod-lt, eq-or-lt_of_le, eq-zero-or-pos, min-eq_left, not-le_of_lt, div-add-mod', mod-mod_of_dvd, dvd-mul_right, add_assoc, add-mul, div-one, mod-eq_of_lt, lt_of_not-le}
use native.Mathlib.Omega.{arith}
use lib.IntN.{pos}
use lib.Dec.{T, leb, eqb, lit≤, lit<, le→leb}
use borrow.Author.Tests.{eq-eqb, eqb-true, not-false}
use lib.Arith.{lt→nleb}
use lib.Pow.{pow-add, pow_pos, pow_mono, shl_lt}
use lib.Ieee.{Float, nan, inf, fin, Format, binary32, binary64, prec, low, up, down, hid, ones, top, of_bits, to_bits, is_nan, nan_bits}
use lib.Ieee.Fits.{down_pos}
use lib.Ieee.Bits.{is_true, is_false, to_bits-of_bits}
use lib.Ieee.Exact.{HasValue}
use Rattle.rounding.specs.declared.rounding.Rounding.{Rounding}
use Rattle.packing.specs.Pack.{ceiling}
use Rattle.exceptions.specs.Exceptions.{invalid, inexact}
use Rattle.roots.specs.Root.{isqrt, root_cut, root_of, sqrt_of, exact_root, sqrt_exceptions, start, base, IsSqrt}
use Rattle.rounding.specs.Lift.{Lifted}
use Rattle.floats.proofs.Units.{prec_pos, slide, twice_hid, hid_pos, reads_low, reads_mid, reads_inf, reads_zero, reads_normal, field_le}
use Rattle.rounding.proofs.Cutting.{move-le}
use Rattle.packing.proofs.Written.{ceiling_ge}
use Rattle.roots.proofs.Squares.{isqrt_ge, isqrt-lt, sqrt_is}

-- ---- what has no root

-- a value that has no root: it is invalid
abbrev Rootless : Rounding → Format → Float → Type 0
Rootless mode f v = (sqrt_of mode f v ≡ nan) × (sqrt_exceptions f v ≡ invalid)

negative_value : (mode : Rounding) (f : Format) (v : Float) (a c : ℕ) → HasValue v true a c → 0 < a → Rootless mode f v
unfolding sqrt_of sqrt_exceptions
negative_value mode f nan a c h p = absurd h
negative_value mode f (inf t) a c h p = absurd h
negative_value mode f (fin t zero e) a c h p = absurd (none (a * down e) (mul-pos p (down_pos e)) (sym h.1 ∙ ap (λ (y : ℕ). y * c) (zero-mul (up e)) ∙ zero-mul c))
  where
    none : (y : ℕ) → 0 < y → y ≡ 0 → ⊥
    none y p z = omega arith
negative_value mode f (fin t (suc m) e) a c h p = (ap (λ (b : Bool). cond b nan (root_of mode f (suc m * up e) (down e))) h.0, ap (λ (b : Bool). cond b invalid (cond (exact_root f (suc m * up e) (down e)) 0 inexact)) h.0)

split : (f : Format) (b : ℕ) → b % top f / hid f * hid f + b % hid f ≡ b % top f
split f b = ap (λ (y : ℕ). b % top f / hid f * hid f + y) (sym (mod-mod_of_dvd (hid f) b (dvd-mul_right (hid f) (suc (ones f))))) ∙ div-add-mod' (b % top f) (hid f)

-- an infinity's digits are 0 where the word is no NaN's
no_digits : (f : Format) (b : ℕ) → nan_bits f b ≡ false → b % top f / hid f ≡ ones f → b % hid f ≡ 0
unfolding nan_bits
no_digits f b n e = eqb-true (b % hid f) 0 (not-false (eqb (b % hid f) 0) (sym (ap (λ (t : Bool). t && not (eqb (b % hid f) 0)) (eq-eqb (b % top f / hid f) (ones f) e)) ∙ n))

negative_root : (mode : Rounding) (f : Format) (b : ℕ) → nan_bits f b ≡ false → 0 < b % top f → top f ≤ b → Rootless mode f (of_bits f b)
unfolding sqrt_of sqrt_exceptions
negative_root mode f b number p n = go (b % top f / hid f) refl (field_le f b)
  where
    neg : leb (top f) b ≡ true
    neg = is_true (leb (top f) b) (le→leb (top f) b n)

    rest : (x h t s : ℕ) → x * h + t ≡ s → x ≡ 0 → 0 < s → 0 < t
    rest x h t s e z g = go' t (sym (zero-add t) ∙ ap (λ (y : ℕ). y + t) (sym (zero-mul h) ∙ ap (λ (y : ℕ). y * h) (sym z)) ∙ e)
      where
        go' : (t : ℕ) → t ≡ s → 0 < t
        go' t e = omega arith

    infinite : of_bits f b ≡ inf (leb (top f) b) → Rootless mode f (of_bits f b)
    infinite e = (ap (sqrt_of mode f) e ∙ ap (λ (s : Bool). cond s nan (inf s)) neg, ap (sqrt_exceptions f) e ∙ ap (λ (s : Bool). cond s invalid 0) neg)

    go : (x : ℕ) → b % top f / hid f ≡ x → x ≤ ones f → Rootless mode f (of_bits f b)
    go zero e l =
        negative_value mode f (of_bits f b) (b % hid f * 2 ^ 0) (2 ^ low f) (subst (λ (s : Bool). HasValue (of_bits f b) s (b % hid f * 2 ^ 0) (2 ^ low f)) neg (reads_low f b e))
        (mul-pos (rest (b % top f / hid f) (hid f) (b % hid f) (b % top f) (split f b) e p) (pow_pos 0))
    go (suc x) e l = elim (eq-or-lt_of_le l) [
      | inl o ↦ infinite (reads_inf f b (e ∙ o) (no_digits f b number (e ∙ o)))
      | inr g ↦
          negative_value mode f (of_bits f b) ((hid f + b % hid f) * 2 ^ x) (2 ^ low f) (subst (λ (s : Bool). HasValue (of_bits f b) s ((hid f + b % hid f) * 2 ^ x) (2 ^ low f)) neg (reads_mid f b x e g))
          (mul-pos (some (hid f) (b % hid f) (hid_pos f)) (pow_pos x))
    ]
      where
        some : (h t : ℕ) → 0 < h → 0 < h + t
        some h t p = omega arith

pub sqrt_negative : (mode : Rounding) (f : Format) (b : ℕ) → nan_bits f b ≡ false → 0 < b % top f → top f ≤ b → IsSqrt mode f (of_bits f b) (ones f * hid f + hid f / 2) invalid
unfolding to_bits
sqrt_negative mode f b number p n = let r = negative_root mode f b number p n in record { bits_are = sym (ap (to_bits f) r.0); raised_is = sym r.1 }

pub sqrt_of_inf : (mode : Rounding) (f : Format) (b : ℕ) → nan_bits f b ≡ false → b < top f → b % top f / hid f ≡ ones f → IsSqrt mode f (of_bits f b) (ones f * hid f) 0
unfolding sqrt_of sqrt_exceptions to_bits
sqrt_of_inf mode f b number h x =
    let e : of_bits f b ≡ inf false = reads_inf f b x (no_digits f b number x) ∙ ap inf (is_false (leb (top f) b) (lt→nleb (top f) b h)) in
    record {
      bits_are = sym (zero-add (ones f * hid f)) ∙ sym (ap (λ (v : Float). to_bits f (sqrt_of mode f v)) e);
      raised_is = sym (ap (sqrt_exceptions f) e);
    }

pub sqrt_of_zero : (mode : Rounding) (f : Format) (b : ℕ) → b < 2 * top f → b % top f ≡ 0 → IsSqrt mode f (of_bits f b) b 0
unfolding sqrt_of sqrt_exceptions is_nan
sqrt_of_zero mode f b h z =
    let e : of_bits f b ≡ fin (leb (top f) b) 0 (pos 0) = reads_zero f b z in
    record {
      bits_are = sym (ap (to_bits f) (ap (sqrt_of mode f) e ∙ sym e) ∙ to_bits-of_bits f b h (subst (λ (v : Float). T (not (is_nan v))) (sym e) tt));
      raised_is = sym (ap (sqrt_exceptions f) e);
    }

-- a word and what it raised, handed on
pub handed_on : {mode : Rounding} {f : Format} {v : Float} {bits raised b x : ℕ} → IsSqrt mode f v b x → (bits ≡ b) × (raised ≡ x) → IsSqrt mode f v bits raised
handed_on p e = record { bits_are = e.0 ∙ p.bits_are; raised_is = e.1 ∙ p.raised_is }

-- ---- the root of D * 2 ^ X of the smallest values. Its digits at the top of 53 places are m = D * 2 ^ r

module _ (f : Format) (D X r e j k m : ℕ) (m_is : m ≡ D * 2 ^ r) (least : 2 ^ 52 ≤ m) (below : m < 2 ^ 53)
    (made : r + (e % 2 + 10) + (prec f + prec f) ≡ j + 64) (given : X + low f ≡ j + (k + k)) where
  -- the number whose root has the kept digits
  abbrev A : ℕ
  A = m * 2 ^ (e % 2 + 10) * 2 ^ (prec f + prec f) / 2 ^ 64

  A_is : A ≡ D * 2 ^ j
  A_is =
      ap (λ (x : ℕ). x / 2 ^ 64)
      (ap (λ (x : ℕ). x * 2 ^ (e % 2 + 10) * 2 ^ (prec f + prec f)) m_is
      ∙ ap (λ (x : ℕ). x * 2 ^ (prec f + prec f)) (mul_assoc D (2 ^ r) (2 ^ (e % 2 + 10)) ∙ ap (λ (x : ℕ). D * x) (sym (pow-add 2 r (e % 2 + 10))))
      ∙ mul_assoc D (2 ^ (r + (e % 2 + 10))) (2 ^ (prec f + prec f))
      ∙ ap (λ (x : ℕ). D * x) (sym (pow-add 2 (r + (e % 2 + 10)) (prec f + prec f)) ∙ ap (λ (x : ℕ). 2 ^ x) made ∙ pow-add 2 j 64)
      ∙ sym (mul_assoc D (2 ^ j) (2 ^ 64)))
      ∙ mul-div_cancel (D * 2 ^ j) (pow_pos 64)

  -- A times 2 ^ 64 is m at its place
  A_scaled : A * 2 ^ 64 ≡ m * 2 ^ (e % 2 + 10 + (prec f + prec f))
  A_scaled =
      ap (λ (x : ℕ). x * 2 ^ 64) A_is
      ∙ mul_assoc D (2 ^ j) (2 ^ 64)
      ∙ ap (λ (x : ℕ). D * x) (sym (pow-add 2 j 64) ∙ ap (λ (x : ℕ). 2 ^ x) (sym made ∙ add_assoc r (e % 2 + 10) (prec f + prec f)) ∙ pow-add 2 r (e % 2 + 10 + (prec f + prec f)))
      ∙ sym (mul_assoc D (2 ^ r) (2 ^ (e % 2 + 10 + (prec f + prec f))))
      ∙ ap (λ (x : ℕ). x * 2 ^ (e % 2 + 10 + (prec f + prec f))) (sym m_is)

  high : 2 ^ (prec f - 1) * 2 ^ (prec f - 1) ≤ A
  high =
      le_of_mul-le-mul_right
      (le_trans (le_of_eq (ap (λ (x : ℕ). x * 2 ^ 64) (sym (pow-add 2 (prec f - 1) (prec f - 1))) ∙ sym (pow-add 2 (prec f - 1 + (prec f - 1)) 64)))
      (le_trans (pow_mono (room (prec f) (e % 2) (prec_pos f)))
      (le_trans (le_of_eq (pow-add 2 52 (e % 2 + 10 + (prec f + prec f))))
      (le_trans (mul-le-mul_right (2 ^ (e % 2 + 10 + (prec f + prec f))) least) (le_of_eq (sym A_scaled))))))
      (pow_pos 64)
    where
      room : (p o : ℕ) → 0 < p → p - 1 + (p - 1) + 64 ≤ 52 + (o + 10 + (p + p))
      room p o h = omega arith

  under : A < 2 ^ prec f * 2 ^ prec f
  under =
      lt_of_mul-lt-mul_right (2 ^ 64)
      (lt_of_lt_of_le (subst (λ (x : ℕ). x < 2 ^ (53 + (e % 2 + 10 + (prec f + prec f)))) (sym A_scaled) (shl_lt 53 (e % 2 + 10 + (prec f + prec f)) below))
      (le_trans (pow_mono (room (prec f) e)) (le_of_eq (pow-add 2 (prec f + prec f) 64 ∙ ap (λ (x : ℕ). x * 2 ^ 64) (pow-add 2 (prec f) (prec f))))))
    where
      room : (p e : ℕ) → 53 + (e % 2 + 10 + (p + p)) ≤ p + p + 64
      room p e = omega arith

  root_under : isqrt A < 2 ^ prec f
  root_under = isqrt-lt A (2 ^ prec f) under

  D_pos : 0 < D
  D_pos = elim (eq-zero-or-pos D) [ inl z ↦ absurd (none m (lt_of_lt_of_le (pow_pos 52) least) (m_is ∙ ap (λ (x : ℕ). x * 2 ^ r) z ∙ zero-mul (2 ^ r))) | inr p ↦ p ]
    where
      none : (y : ℕ) → 0 < y → y ≡ 0 → ⊥
      none y p z = omega arith

  scale : D * 2 ^ X * 2 ^ (low f + low f) ≡ A * (2 ^ low f * 2 ^ (k + k))
  scale =
      ap (λ (x : ℕ). D * 2 ^ X * x) (pow-add 2 (low f) (low f))
      ∙ sym (mul_assoc (D * 2 ^ X) (2 ^ low f) (2 ^ low f))
      ∙ ap (λ (x : ℕ). x * 2 ^ low f) (slide D X (low f) j (k + k) given ∙ ap (λ (x : ℕ). x * 2 ^ (k + k)) (sym A_is))
      ∙ mul_assoc A (2 ^ (k + k)) (2 ^ low f)
      ∙ ap (λ (x : ℕ). A * x) (mul_comm (2 ^ (k + k)) (2 ^ low f))

  pub root_value : (mode : Rounding) (v : Float) (kept : ℕ) (x : Bool) → HasValue v false (D * 2 ^ X) (2 ^ low f) → k + 3 ≤ ones f → (kept ≡ root_cut mode A 1) × (x ≡ eqb (isqrt A * isqrt A) A)
      → IsSqrt mode f v (k * hid f + kept) (cond x 0 inexact)
  root_value mode v kept x h room p =
      let r = sqrt_is mode f v (D * 2 ^ X) (2 ^ low f) k A h (pow_pos (low f)) (mul-pos D_pos (pow_pos X)) scale root_under (inr (isqrt_ge A (hid f) high)) in
      record {
        bits_are =
            ap (λ (z : ℕ). k * hid f + z) p.0
            ∙ sym (zero-add (k * hid f + root_cut mode A 1))
            ∙ ap (λ (x : ℕ). 0 + x) (sym (min-eq_left (before (k * hid f + root_cut mode A 1) (ones f * hid f) (ceiling mode f false) finite (ceiling_ge mode f false))))
            ∙ sym r.0;
        raised_is = ap (λ (b : Bool). cond b 0 inexact) p.1 ∙ sym r.1;
      }
    where
      before : (x y z : ℕ) → x < y → y - 1 ≤ z → x ≤ z
      before x y z a b = omega arith

      most : root_cut mode A 1 ≤ 2 ^ prec f
      most = le_trans (move-le mode false (isqrt (A / 1)) _ _) (subst (λ (x : ℕ). isqrt x < 2 ^ prec f) (sym (div-one A)) root_under)

      add_up : (kh h c w oh : ℕ) → kh + 3 * h ≤ oh → c ≤ w → w ≡ 2 * h → 0 < h → kh + c < oh
      add_up kh h c w oh a b e p = omega arith

      finite : k * hid f + root_cut mode A 1 < ones f * hid f
      finite = add_up (k * hid f) (hid f) (root_cut mode A 1) (2 ^ prec f) (ones f * hid f) (le_trans (le_of_eq (sym (add-mul k 3 (hid f)))) (mul-le-mul_right (hid f) room)) most (twice_hid f) (hid_pos f)

-- ---- by the fields

made_up : (f : Format) (r e : ℕ) → 54 ≤ r + (prec f + prec f) → r + (e % 2 + 10) + (prec f + prec f) ≡ r + e % 2 + (prec f + prec f) - 54 + 64
made_up f r e h = go (prec f + prec f) h
  where
    go : (p : ℕ) → 54 ≤ r + p → r + (e % 2 + 10) + p ≡ r + e % 2 + p - 54 + 64
    go p h = omega arith

halves : (f : Format) (X r e : ℕ) → e + r ≡ X + start f → 54 ≤ r + (prec f + prec f) → X + low f ≡ r + e % 2 + (prec f + prec f) - 54 + (e / 2 + base f + (e / 2 + base f))
halves binary32 X r e d h = omega arith
halves binary64 X r e d h = omega arith

roomy : (f : Format) (X r e : ℕ) → e + r ≡ X + start f → suc X < ones f → e / 2 + base f + 3 ≤ ones f
roomy binary32 X r e d h = omega arith
roomy binary64 X r e d h = omega arith

-- the digits of the root of m * 2 ^ (e % 2), and whether nothing is left
abbrev pub Found : Rounding → Format → ℕ → ℕ → ℕ → Bool → Type 0
Found mode f m e kept x =
    let A = m * 2 ^ (e % 2 + 10) * 2 ^ (prec f + prec f) / 2 ^ 64 in
    (kept ≡ root_cut mode A 1) × (x ≡ eqb (isqrt A * isqrt A) A)

-- the root of D * 2 ^ X smallest values, from m, its digits moved up by r
root_at : (mode : Rounding) (f : Format) (v : Float) (D X r e m kept : ℕ) (x : Bool) → HasValue v false (D * 2 ^ X) (2 ^ low f) → m ≡ D * 2 ^ r → 2 ^ 52 ≤ m → m < 2 ^ 53
    → e + r ≡ X + start f → 54 ≤ r + (prec f + prec f) → suc X < ones f → Found mode f m e kept x → IsSqrt mode f v ((e / 2 + base f) * hid f + kept) (cond x 0 inexact)
root_at mode f v D X r e m kept x h p l b d q u k =
    root_value f D X r e (r + e % 2 + (prec f + prec f) - 54) (e / 2 + base f) m p l b (made_up f r e q) (halves f X r e d q) mode v kept x h (roomy f X r e d u) k

positive : (f : Format) (b a c : ℕ) → b < top f → HasValue (of_bits f b) (leb (top f) b) a c → HasValue (of_bits f b) false a c
positive f b a c h v = subst (λ (s : Bool). HasValue (of_bits f b) s a c) (is_false (leb (top f) b) (lt→nleb (top f) b h)) v

-- a number of few digits goes up far
far : (f : Format) (t r : ℕ) → t < hid f → Lifted t r → 54 ≤ r + (prec f + prec f)
far f t r h l =
    count (prec f) r (prec_pos f)
    (lt_of_not-le (λ (g : prec f - 1 + r ≤ 52). not-le_of_lt (lt_of_lt_of_le (shl_lt (prec f - 1) r h) (pow_mono g)) l.least))
  where
    count : (p r : ℕ) → 0 < p → 52 < p - 1 + r → 54 ≤ r + (p + p)
    count p r h l = omega arith

pub root_low : (mode : Rounding) (f : Format) (b r kept : ℕ) (x : Bool) → b < top f → b % top f / hid f ≡ 0 → Lifted (b % hid f) r → Found mode f (b % hid f * 2 ^ r % 2 ^ 64) (start f - r) kept x
    → IsSqrt mode f (of_bits f b) (((start f - r) / 2 + base f) * hid f + kept) (cond x 0 inexact)
root_low mode f b r kept x h z l k =
    let t = b % hid f in
    let e : t * 2 ^ r % 2 ^ 64 ≡ t * 2 ^ r = mod-eq_of_lt (lt_of_lt_of_le l.below (lit≤ tt)) in
    root_at mode f (of_bits f b) t 0 r (start f - r) (t * 2 ^ r % 2 ^ 64) kept x (positive f b (t * 2 ^ 0) (2 ^ low f) h (reads_low f b z)) e
    (subst (λ (z : ℕ). 2 ^ 52 ≤ z) (sym e) l.least)
    (subst (λ (z : ℕ). z < 2 ^ 53) (sym e) l.below)
    (counted (low f % 2) r l.most) (far f t r (mod-lt b (hid_pos f)) l) (some f) k
  where
    counted : (o r : ℕ) → r ≤ 52 → 52 + o - r + r ≡ 0 + (52 + o)
    counted o r h = omega arith

    some : (f : Format) → 1 < ones f
    some binary32 = lit< tt
    some binary64 = lit< tt

-- how far a normal value's digits go up, and what is added to its field
abbrev pub rise : Format → ℕ
rise f = 53 - prec f

abbrev pub shift : Format → ℕ
shift f = start f - 1 - rise f

pub root_mid : (mode : Rounding) (f : Format) (b m kept : ℕ) (x : Bool) → b < top f → (b % top f / hid f ≡ 0 → ⊥) → (b % top f / hid f ≡ ones f → ⊥) → m ≡ (hid f + b % hid f) * 2 ^ rise f
    → Found mode f m (b % top f / hid f + shift f) kept x → IsSqrt mode f (of_bits f b) (((b % top f / hid f + shift f) / 2 + base f) * hid f + kept) (cond x 0 inexact)
root_mid mode f b m kept y h n o d k =
    let x = b % top f / hid f in
    root_at mode f (of_bits f b) (hid f + b % hid f) (x - 1) (rise f) (x + shift f) m kept y
    (positive f b ((hid f + b % hid f) * 2 ^ (x - 1)) (2 ^ low f) h (reads_normal f b n o)) d
    (subst (λ (z : ℕ). 2 ^ 52 ≤ z) (sym d) (le_trans (first f) (mul-le-mul_right (2 ^ rise f) (grow (hid f) (b % hid f)))))
    (subst (λ (z : ℕ). z < 2 ^ 53) (sym d) (lt_of_lt_of_le (mul-lt-mul_of_pos_right (below_twice (hid f) (b % hid f) (mod-lt b (hid_pos f))) (pow_pos (rise f))) (last f)))
    (counted f x n) (enough f) (under x (ones f) n o (field_le f b)) k
  where
    under : (x o : ℕ) → (x ≡ 0 → ⊥) → (x ≡ o → ⊥) → x ≤ o → suc (x - 1) < o
    under x o n d h = omega arith

    grow : (h t : ℕ) → h ≤ h + t
    grow h t = omega arith

    below_twice : (h t : ℕ) → t < h → h + t < 2 * h
    below_twice h t l = omega arith

    first : (f : Format) → 2 ^ 52 ≤ hid f * 2 ^ rise f
    first binary32 = lit≤ tt
    first binary64 = lit≤ tt

    last : (f : Format) → 2 * hid f * 2 ^ rise f ≤ 2 ^ 53
    last binary32 = lit≤ tt
    last binary64 = lit≤ tt

    enough : (f : Format) → 54 ≤ rise f + (prec f + prec f)
    enough binary32 = lit≤ tt
    enough binary64 = lit≤ tt

    counted : (f : Format) (x : ℕ) → (x ≡ 0 → ⊥) → x + shift f + rise f ≡ x - 1 + start f
    counted binary32 x n = omega arith
    counted binary64 x n = omega arith

-- its digits have room
pub normal_digits : (f : Format) (t : ℕ) → t < hid f → (hid f + t) * 2 ^ rise f % 2 ^ 64 ≡ (hid f + t) * 2 ^ rise f
normal_digits binary32 t h = omega arith
normal_digits binary64 t h = omega arith
