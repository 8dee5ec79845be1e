-- Integers to floats, and floats to integers. Assumes nothing.
use mathlib.Core.Path.{◌≡◌, refl, sym, ap, ◌∙◌, subst}
use mathlib.Core.Logic.{inl, inr}
use mathlib.Core.Bool.{Bool, true, false, ◌&&◌, cond, and-false}
use Prim.Native.Nat.{ℕ, ◌+◌, ◌-◌, ◌*◌, ◌/◌, ◌%◌, ◌^◌, ◌≤◌, ◌<◌, min}
use native.Mathlib.Nat.{le_trans, le_of_eq, le_of_lt, one-mul, mul-one, min-eq_left, mul_assoc, mul-le-mul, le-div_iff_mul-le, div-one, mod-one, eq-zero-or-pos}
use native.Mathlib.Omega.{arith}
use lib.Count.{count_leading_zeros}
use lib.Dec.{leb, ltb, eqb, lit≤, lit<}
use lib.Pow.{pow-add, pow_pos, pow_mono}
use lib.Ieee.{Float, nan, inf, fin, Format, binary32, binary64, prec, low, up, down, hid, ones, top, of_bits, to_bits, nan_bits}
use lib.Ieee.Fits.{down_pos, fits_widens}
use lib.Ieee.Bits.{of_bits-to_bits, of_bits-fits}
use lib.Ieee.Exact.{HasValue}
use borrow.Author.Tests.{le-leb, lt-leb, le-ltb, lt-ltb}
use Rattle.rounding.specs.Rounding.{cut_to, rounded, exact, IsCut}
use Rattle.packing.specs.Pack.{ceiling, packed, IsSettled}
use Rattle.exceptions.specs.Exceptions.{invalid, inexact}
use Rattle.integers.specs.Integer.{from_integer, clamped, integer_of, to_integer, from_integer_exceptions, outside, clamped_exceptions, integer_exceptions, to_integer_exceptions}
use Rattle.widths.specs.Convert.{widen_number, widen}
use Rattle.nans.specs.Nan.{resized}
use Rattle.nans.proofs.Choosing.{nan_word, resized_nan}
use Rattle.rounding.specs.Lift.{Lifted}
use Rattle.rounding.specs.declared.rounding.Rounding.{Rounding}
use Rattle.rounding.specs.declared.rounding.Rounding.TheVariants.{Nearest}
use Rattle.floats.proofs.Units.{Lead, slide, reads_low, reads_normal, reads_inf}
use Rattle.floats.proofs.Patterns.{nan_of_fields, reads_nan}
use Rattle.rounding.proofs.Cutting.{move_ge, cut_le, cut_same, rest_same, cut_far, rest_far, cut_exact}
use Rattle.packing.proofs.Written.{ceiling_ge, rounded_bits, exact_is, over_is, tiny_is}
use Rattle.packing.proofs.Settle.{settled_same}
use Rattle.rounding.proofs.Lifting.{moved_is, lifted}

-- ---- a whole number as a float, over the format

pub whole_zero : (mode : Rounding) (f : Format) (s : Bool) (n bits : ℕ) (x o t : Bool) → n ≡ 0 → IsSettled mode f s (0 * 2 ^ 0) (2 ^ 2209) bits x o t → IsSettled mode f s n 1 bits x o t
whole_zero mode f s n bits x o t e p = settled_same mode f s (0 * 2 ^ 0) (2 ^ 2209) n 1 bits x o t (pow_pos 2209) (lit< tt) (sym (ap (λ (z : ℕ). z * 2 ^ 2209) e)) p

pub whole_some : (mode : Rounding) (f : Format) (s : Bool) (n r bits : ℕ) (x o t : Bool) → Lifted n r
    → IsSettled mode f s (n * 2 ^ r % 2 ^ 64 * 512 * 2 ^ (2200 - r)) (2 ^ 2209) bits x o t → IsSettled mode f s n 1 bits x o t
whole_some mode f s n r bits x o t l p =
    settled_same mode f s (n * 2 ^ r % 2 ^ 64 * 512 * 2 ^ (2200 - r)) (2 ^ 2209) n 1 bits x o t (pow_pos 2209) (lit< tt)
    (mul-one (n * 2 ^ r % 2 ^ 64 * 512 * 2 ^ (2200 - r))
    ∙ ap (λ (z : ℕ). z * 512 * 2 ^ (2200 - r)) (moved_is n r l)
    ∙ ap (λ (z : ℕ). z * 2 ^ (2200 - r)) (mul_assoc n (2 ^ r) (2 ^ 9) ∙ ap (λ (z : ℕ). n * z) (sym (pow-add 2 r 9)))
    ∙ mul_assoc n (2 ^ (r + 9)) (2 ^ (2200 - r))
    ∙ ap (λ (z : ℕ). n * z) (sym (pow-add 2 (r + 9) (2200 - r)) ∙ ap (λ (z : ℕ). 2 ^ z) (exps r l.most))) p
  where
    exps : (r : ℕ) → r ≤ 52 → r + 9 + (2200 - r) ≡ 2209
    exps r h = omega arith

-- the 53 digits at the top of 62
pub whole_ready : (n r : ℕ) → Lifted n r → (n * 2 ^ r % 2 ^ 64 * 512 < 2 ^ 62) × (2 ^ 61 ≤ n * 2 ^ r % 2 ^ 64 * 512)
whole_ready n r l = (lower _ (subst (λ (z : ℕ). z < 2 ^ 53) (sym (moved_is n r l)) l.below), upper _ (subst (λ (z : ℕ). 2 ^ 52 ≤ z) (sym (moved_is n r l)) l.least))
  where
    lower : (z : ℕ) → z < 2 ^ 53 → z * 512 < 2 ^ 62
    lower z h = omega arith

    upper : (z : ℕ) → 2 ^ 52 ≤ z → 2 ^ 61 ≤ z * 512
    upper z h = omega arith

-- of the 53 digits some are dropped, as a double none
module _ (mode : Rounding) (f : Format) (s : Bool) (n r kept : ℕ) (x : Bool) (l : Lifted n r) (p : IsCut mode s (n * 2 ^ r % 2 ^ 64) (2 ^ (53 - prec f)) kept x) where
  abbrev k : ℕ
  k = low f + 53 - prec f - r

  abbrev unit : ℕ
  unit = 2 ^ (53 - prec f)

  digits_few : (n * 2 ^ r / unit < 2 ^ prec f) × (hid f ≤ n * 2 ^ r / unit)
  digits_few = go f (n * 2 ^ r) l.below l.least
    where
      go : (f : Format) (z : ℕ) → z < 2 ^ 53 → 2 ^ 52 ≤ z → (z / 2 ^ (53 - prec f) < 2 ^ prec f) × (hid f ≤ z / 2 ^ (53 - prec f))
      go binary32 z h k = (omega arith, omega arith)
      go binary64 z h k = (omega arith, omega arith)

  kept_is : kept ≡ cut_to mode s (n * 2 ^ r) unit
  kept_is = p.kept_is ∙ ap (λ (z : ℕ). cut_to mode s z unit) (moved_is n r l)

  pub kept_few : kept ≤ 2 ^ prec f
  kept_few = le_trans (le_of_eq kept_is) (le_trans (cut_le mode s (n * 2 ^ r) unit) digits_few.0)

  small : k * hid f + kept < ones f * hid f - 1
  small = go f r kept kept_few
    where
      go : (f : Format) (r c : ℕ) → c ≤ 2 ^ prec f → (low f + 53 - prec f - r) * hid f + c < ones f * hid f - 1
      go binary32 r c g = omega arith
      go binary64 r c g = omega arith

  scale : n * 2 ^ low f * unit ≡ n * 2 ^ r * (1 * 2 ^ k)
  scale = slide n (low f) (53 - prec f) r k (exps f r l.most) ∙ ap (λ (z : ℕ). n * 2 ^ r * z) (sym (one-mul (2 ^ k)))
    where
      exps : (f : Format) (r : ℕ) → r ≤ 52 → low f + (53 - prec f) ≡ r + (low f + 53 - prec f - r)
      exps binary32 r h = omega arith
      exps binary64 r h = omega arith

  pub whole_cut : (sign : ℕ) → sign ≡ cond s (top f) 0 → IsSettled mode f s n 1 (sign + (k * hid f + kept)) x false false
  whole_cut sign e =
      let least = le_trans (le_of_lt small) (ceiling_ge mode f s) in
      record {
        bits_are =
            ap (λ (z : ℕ). z + (k * hid f + kept)) e
            ∙ ap (λ (z : ℕ). cond s (top f) 0 + z) (sym (min-eq_left least) ∙ ap (λ (z : ℕ). min (k * hid f + z) (ceiling mode f s)) kept_is)
            ∙ sym (rounded_bits mode f s n 1 k (n * 2 ^ r) unit (lit< tt) (pow_pos (53 - prec f)) scale digits_few.0 (inr digits_few.1));
        exact_is = p.exact_is ∙ ap (λ (z : ℕ). eqb (z % unit) 0) (moved_is n r l) ∙ sym (exact_is mode f s n 1 k (n * 2 ^ r) unit (lit< tt) (pow_pos (53 - prec f)) scale digits_few.0 (inr digits_few.1));
        over_is =
            sym (lt-leb (ones f * hid f) (k * hid f + kept) (last (k * hid f + kept) (ones f * hid f) small))
            ∙ ap (λ (z : ℕ). leb (ones f * hid f) (k * hid f + z)) kept_is
            ∙ sym (over_is mode f s n 1 k (n * 2 ^ r) unit (lit< tt) (pow_pos (53 - prec f)) scale digits_few.0 (inr digits_few.1));
        tiny_is =
            sym (and-false (ltb 0 (n * 2 ^ r)))
            ∙ ap (λ (t : Bool). ltb 0 (n * 2 ^ r) && t) (sym (le-ltb (n * 2 ^ r / unit) (hid f) digits_few.1))
            ∙ sym (tiny_is mode f s n 1 k (n * 2 ^ r) unit (lit< tt) (pow_pos (53 - prec f)) scale digits_few.0 (inr digits_few.1));
      }
    where
      last : (x y : ℕ) → x < y - 1 → x < y
      last x y h = omega arith

-- a double keeps all 53
pub kept_whole : (mode : Rounding) (s : Bool) (m : ℕ) → IsCut mode s m 1 m true
kept_whole mode s m = record { kept_is = sym (cut_exact mode s m 1 (lit< tt) (mod-one m) ∙ div-one m); exact_is = sym (ap (λ (z : ℕ). eqb z 0) (mod-one m)) }

-- as a double: n is m * 2 ^ k of the smallest values, of which nothing is dropped, so that every mode gives the same
double_at : (mode : Rounding) (s : Bool) (n k m : ℕ) → n * 2 ^ 1074 * 1 ≡ m * (1 * 2 ^ k) → m < 2 ^ 53 → Lead binary64 k m → k ≤ 1074
    → to_bits binary64 (rounded mode binary64 s n 1) ≡ cond s (top binary64) 0 + (k * hid binary64 + m)
double_at mode s n k m e h l g =
    rounded_bits mode binary64 s n 1 k m 1 (lit< tt) (lit< tt) e (subst (λ (z : ℕ). z < 2 ^ 53) (sym (div-one m)) h) (subst (Lead binary64 k) (sym (div-one m)) l)
    ∙ ap (packed mode binary64 s k) (cut_exact mode s m 1 (lit< tt) (mod-one m) ∙ div-one m)
    ∙ ap (λ (z : ℕ). cond s (top binary64) 0 + z) (min-eq_left (le_trans (low k m g h) (ceiling_ge mode binary64 s)))
  where
    low : (k m : ℕ) → k ≤ 1074 → m < 2 ^ 53 → k * hid binary64 + m ≤ ones binary64 * hid binary64 - 1
    low k m g h = omega arith

-- every whole number of 53 digits has that form
doubled : (P : Type 0) (n : ℕ) → n < 2 ^ 53 → ((k m : ℕ) → n * 2 ^ 1074 * 1 ≡ m * (1 * 2 ^ k) → m < 2 ^ 53 → Lead binary64 k m → k ≤ 1074 → P) → P
doubled P n h same = elim (eq-zero-or-pos n) [
  | inl z ↦ same 0 0 (ap (λ (x : ℕ). x * 2 ^ 1074 * 1) z) (lit< tt) (inl refl) (lit≤ tt)
  | inr p ↦
      let r = count_leading_zeros 64 n - 11 in
      let l = lifted n p h in
      same (1074 - r) (n * 2 ^ r) (slide n 1074 0 r (1074 - r) (exps r l.most) ∙ ap (λ (z : ℕ). n * 2 ^ r * z) (sym (one-mul (2 ^ (1074 - r))))) l.below (inr l.least) (most r)
]
  where
    exps : (r : ℕ) → r ≤ 52 → 1074 + 0 ≡ r + (1074 - r)
    exps r h = omega arith

    most : (r : ℕ) → 1074 - r ≤ 1074
    most r = omega arith

pub double_any : (mode : Rounding) (s : Bool) (n : ℕ) → n < 2 ^ 53 → to_bits binary64 (rounded Nearest binary64 s n 1) ≡ to_bits binary64 (rounded mode binary64 s n 1)
double_any mode s n h = doubled _ n h (λ k m e u l g. double_at Nearest s n k m e u l g ∙ sym (double_at mode s n k m e u l g))

pub double_exact : (n : ℕ) → n < 2 ^ 53 → exact binary64 n 1 ≡ true
double_exact n h = doubled _ n h (λ k m e u l g.
    exact_is Nearest binary64 false n 1 k m 1 (lit< tt) (lit< tt) e (subst (λ (z : ℕ). z < 2 ^ 53) (sym (div-one m)) u) (subst (Lead binary64 k) (sym (div-one m)) l)
    ∙ ap (λ (z : ℕ). eqb z 0) (mod-one m))

-- ---- by the sign of a word

value_is : (f : Format) (mode : Rounding) (g n : Bool) (signed : Bool) (w : ℕ) → signed ≡ g → leb (2 ^ 31) w ≡ n
    → from_integer f mode signed w ≡ to_bits f (cond (g && n) (rounded mode f true (2 ^ 32 - w) 1) (rounded mode f false w 1))
unfolding from_integer
value_is f mode g n signed w p q = rw (p, q)

module _ (f : Format) (mode : Rounding) (signed : Bool) (w bits : ℕ) where
  pub below_zero : signed ≡ true → 2 ^ 31 ≤ w → bits ≡ to_bits f (rounded mode f true (2 ^ 32 - w) 1) → bits ≡ from_integer f mode signed w
  below_zero e h p = p ∙ sym (value_is f mode true true signed w e (le-leb (2 ^ 31) w h))

  pub signed_up : signed ≡ true → w < 2 ^ 31 → bits ≡ to_bits f (rounded mode f false w 1) → bits ≡ from_integer f mode signed w
  signed_up e h p = p ∙ sym (value_is f mode true false signed w e (lt-leb (2 ^ 31) w h))

  pub unsigned : signed ≡ false → bits ≡ to_bits f (rounded mode f false w 1) → bits ≡ from_integer f mode signed w
  unsigned e p = p ∙ sym (value_is f mode false (leb (2 ^ 31) w) signed w e refl)

-- where the word's sign is found by one test
module _ (f : Format) (signed : Bool) (w : ℕ) (negative : Bool) (e : (signed && leb (2 ^ 31) w) ≡ negative) where
  pub by_sign : (mode : Rounding) (bits : ℕ) → bits ≡ to_bits f (cond negative (rounded mode f true (2 ^ 32 - w) 1) (rounded mode f false w 1)) → bits ≡ from_integer f mode signed w
  unfolding from_integer
  by_sign mode bits p = p ∙ ap (λ (t : Bool). to_bits f (cond t (rounded mode f true (2 ^ 32 - w) 1) (rounded mode f false w 1))) (sym e)

  -- what it raises
  pub raises_by_sign : (raised : ℕ) → raised ≡ cond (exact f (cond negative (2 ^ 32 - w) w) 1) 0 inexact → raised ≡ from_integer_exceptions f signed w
  unfolding from_integer_exceptions
  raises_by_sign raised p = p ∙ ap (λ (t : Bool). cond (exact f (cond t (2 ^ 32 - w) w) 1) 0 inexact) (sym e)

-- ---- a double as a whole number

-- a value a / c, rounded
pub integer_value : (mode : Rounding) (g : Bool) (v : Float) (s : Bool) (a c : ℕ) → 0 < c → HasValue v s a c → integer_of mode g v ≡ clamped g s (cut_to mode s a c)
unfolding integer_of
integer_value mode g nan s a c C h = absurd h
integer_value mode g (inf t) s a c C h = absurd h
integer_value mode g (fin t m e) s a c C h =
    ap (λ (b : Bool). clamped g b (cut_to mode b (m * up e) (down e))) h.0
    ∙ ap (clamped g s) (cut_same mode s (m * up e) (down e) a c (down_pos e) C h.1)

value_raises : (mode : Rounding) (g : Bool) (v : Float) (s : Bool) (a c : ℕ) → 0 < c → HasValue v s a c → integer_exceptions mode g v ≡ clamped_exceptions g s (cut_to mode s a c) (eqb (a % c) 0)
unfolding integer_exceptions
value_raises mode g nan s a c C h = absurd h
value_raises mode g (inf t) s a c C h = absurd h
value_raises mode g (fin t m e) s a c C h =
    ap (λ (b : Bool). clamped_exceptions g b (cut_to mode b (m * up e) (down e)) (eqb (m * up e % down e) 0)) h.0
    ∙ ap (λ (z : ℕ). clamped_exceptions g s z (eqb (m * up e % down e) 0)) (cut_same mode s (m * up e) (down e) a c (down_pos e) C h.1)
    ∙ ap (clamped_exceptions g s (cut_to mode s a c)) (rest_same (m * up e) (down e) a c (down_pos e) C h.1)

abbrev field : ℕ → ℕ
field b = b % 0x8000_0000_0000_0000 / 0x10_0000_0000_0000

abbrev digits : ℕ → ℕ
digits b = b % 0x10_0000_0000_0000

abbrev neg : ℕ → Bool
neg b = leb 0x8000_0000_0000_0000 b

-- a word as an integer, and what it raises
abbrev pub ToInteger : Format → Rounding → Bool → ℕ → ℕ → ℕ → Type 0
ToInteger f mode g b bits raised = (bits ≡ to_integer f mode g b) × (raised ≡ to_integer_exceptions f mode g b)

abbrev Clamped : Bool → Bool → ℕ → Bool → ℕ → ℕ → Type 0
Clamped g s c x bits raised = (bits ≡ clamped g s c) × (raised ≡ clamped_exceptions g s c x)

-- m * 2 ^ x / 2 ^ 1074 is m / 2 ^ sh
by_cut : (mode : Rounding) (g : Bool) (v : Float) (s : Bool) (m x sh kept : ℕ) (t : Bool) → HasValue v s (m * 2 ^ x) (2 ^ 1074) → x + sh ≡ 1074 → m < 2 ^ 62
    → IsCut mode s m (2 ^ min sh 63) kept t → (clamped g s kept ≡ integer_of mode g v) × (clamped_exceptions g s kept t ≡ integer_exceptions mode g v)
by_cut mode g v s m x sh kept t h e l p =
    (ap (clamped g s) whole ∙ sym (integer_value mode g v s (m * 2 ^ x) (2 ^ 1074) (pow_pos 1074) h), ap (λ (z : ℕ). clamped_exceptions g s z t) whole ∙ ap (clamped_exceptions g s _) left ∙ sym (value_raises mode g v s (m * 2 ^ x) (2 ^ 1074) (pow_pos 1074) h))
  where
    same : m * 2 ^ x * 2 ^ sh ≡ m * 2 ^ 1074
    same = mul_assoc m (2 ^ x) (2 ^ sh) ∙ ap (λ (y : ℕ). m * y) (sym (pow-add 2 x sh) ∙ ap (λ (y : ℕ). 2 ^ y) e)

    whole : kept ≡ cut_to mode s (m * 2 ^ x) (2 ^ 1074)
    whole = p.kept_is ∙ cut_far mode s m sh l ∙ sym (cut_same mode s (m * 2 ^ x) (2 ^ 1074) m (2 ^ sh) (pow_pos 1074) (pow_pos sh) same)

    left : t ≡ eqb (m * 2 ^ x % 2 ^ 1074) 0
    left = p.exact_is ∙ rest_far m sh l ∙ sym (rest_same (m * 2 ^ x) (2 ^ 1074) m (2 ^ sh) (pow_pos 1074) (pow_pos sh) same)

clamp_large : (g s : Bool) (c : ℕ) → 2 ^ 32 ≤ c → clamped g s (2 ^ 32) ≡ clamped g s c
clamp_large true true c h = ap (λ (x : ℕ). (2 ^ 32 - x) % 2 ^ 32) (most c h)
  where
    most : (c : ℕ) → 2 ^ 32 ≤ c → min (2 ^ 32) (2 ^ 31) ≡ min c (2 ^ 31)
    most c h = omega arith
clamp_large true false c h = omega arith
clamp_large false true c h = refl
clamp_large false false c h = omega arith

outside_large : (g s : Bool) (c : ℕ) → 2 ^ 32 ≤ c → (x : Bool) → clamped_exceptions g s c x ≡ invalid
outside_large g s c h x = ap (λ (t : Bool). cond t invalid (cond x 0 inexact)) (go g s)
  where
    go : (g s : Bool) → outside g s c ≡ true
    go true true = lt-ltb (2 ^ 31) c (omega arith)
    go true false = le-leb (2 ^ 31) c (omega arith)
    go false true = lt-ltb 0 c (omega arith)
    go false false = le-leb (2 ^ 32) c h

module _ (mode : Rounding) (g : Bool) (b bits raised : ℕ) where
  pub int_inf : field b ≡ 2047 → digits b ≡ 0 → Clamped g (neg b) (2 ^ 32) true bits raised → ToInteger binary64 mode g b bits raised
  unfolding to_integer integer_of to_integer_exceptions integer_exceptions
  int_inf x t e =
      let is = reads_inf binary64 b x t in
      (e.0 ∙ sym (ap (integer_of mode g) is), e.1 ∙ outside_large g (neg b) (2 ^ 32) (lit≤ tt) true ∙ sym (ap (integer_exceptions mode g) is))

  pub int_low : (kept : ℕ) (t : Bool) → field b ≡ 0 → IsCut mode (neg b) (digits b) (2 ^ 63) kept t → Clamped g (neg b) kept t bits raised → ToInteger binary64 mode g b bits raised
  unfolding to_integer to_integer_exceptions
  int_low kept t x p e =
      let is = by_cut mode g (of_bits binary64 b) (neg b) (digits b) 0 1074 kept t (reads_low binary64 b x) refl (few b) p in
      (e.0 ∙ is.0, e.1 ∙ is.1)
    where
      few : (b : ℕ) → digits b < 2 ^ 62
      few b = omega arith

  pub int_mid : (sh kept : ℕ) (t : Bool) → (field b ≡ 0 → ⊥) → (field b ≡ 2047 → ⊥) → field b ≤ 1054 → sh ≡ min (1075 - field b) 63
      → IsCut mode (neg b) (0x10_0000_0000_0000 + digits b) (2 ^ sh) kept t → Clamped g (neg b) kept t bits raised → ToInteger binary64 mode g b bits raised
  unfolding to_integer to_integer_exceptions
  int_mid sh kept t some last h d p e =
      let is = by_cut mode g (of_bits binary64 b) (neg b) (0x10_0000_0000_0000 + digits b) (field b - 1) (1075 - field b) kept t (reads_normal binary64 b some last) (exps (field b) some h) (few b)
      (subst (λ (z : ℕ). IsCut mode (neg b) (0x10_0000_0000_0000 + digits b) (2 ^ z) kept t) d p) in
      (e.0 ∙ is.0, e.1 ∙ is.1)
    where
      exps : (x : ℕ) → (x ≡ 0 → ⊥) → x ≤ 1054 → x - 1 + (1075 - x) ≡ 1074
      exps x p h = omega arith

      few : (b : ℕ) → 0x10_0000_0000_0000 + digits b < 2 ^ 62
      few b = omega arith

  pub int_large : (field b ≡ 0 → ⊥) → (field b ≡ 2047 → ⊥) → 1054 < field b → Clamped g (neg b) (2 ^ 32) true bits raised → ToInteger binary64 mode g b bits raised
  unfolding to_integer to_integer_exceptions
  int_large some last h e =
      let v = of_bits binary64 b in
      let a = (0x10_0000_0000_0000 + digits b) * 2 ^ (field b - 1) in
      let has = reads_normal binary64 b some last in
      let reach : 2 ^ 32 ≤ cut_to mode (neg b) a (2 ^ 1074) = le_trans ((le-div_iff_mul-le (pow_pos 1074)).1 reaches) (move_ge mode (neg b) (a / 2 ^ 1074) _ _) in (
        e.0 ∙ clamp_large g (neg b) (cut_to mode (neg b) a (2 ^ 1074)) reach ∙ sym (integer_value mode g v (neg b) a (2 ^ 1074) (pow_pos 1074) has),
        e.1
            ∙ outside_large g (neg b) (2 ^ 32) (lit≤ tt) true
            ∙ sym (outside_large g (neg b) (cut_to mode (neg b) a (2 ^ 1074)) reach (eqb (a % 2 ^ 1074) 0))
            ∙ sym (value_raises mode g v (neg b) a (2 ^ 1074) (pow_pos 1074) has),
      )
    where
      lead : (b : ℕ) → 2 ^ 52 ≤ 0x10_0000_0000_0000 + digits b
      lead b = omega arith

      more : (x : ℕ) → 1054 < x → 1054 ≤ x - 1
      more x h = omega arith

      reaches : 2 ^ 32 * 2 ^ 1074 ≤ (0x10_0000_0000_0000 + digits b) * 2 ^ (field b - 1)
      reaches = le_trans (lit≤ tt) (mul-le-mul {n₁ = 2 ^ 52} {m₁ = 2 ^ 1054} (lead b) (pow_mono {i = 1054} (more (field b) h)))

pub int_nan : (mode : Rounding) (g : Bool) (b : ℕ) → field b ≡ 2047 → (digits b ≡ 0 → ⊥) → ToInteger binary64 mode g b 0 invalid
unfolding to_integer integer_of to_integer_exceptions integer_exceptions
int_nan mode g b x t = let is = nan_of_fields binary64 b x t in (sym (ap (integer_of mode g) is), sym (ap (integer_exceptions mode g) is))

-- ---- a single, widened

pub widened_value : (control b : ℕ) → b < 2 ^ 32 → of_bits binary64 (widen control b) ≡ of_bits binary32 b
unfolding widen widen_number
widened_value control b l = by (nan_bits binary32 b) refl
  where
    by : (t : Bool) → nan_bits binary32 b ≡ t → of_bits binary64 (cond t (resized binary32 binary64 control b) (to_bits binary64 (of_bits binary32 b))) ≡ of_bits binary32 b
    by true e =
        reads_nan binary64 (resized binary32 binary64 control b) (nan_word binary64 (resized binary32 binary64 control b) (resized_nan binary32 binary64 control b l))
        ∙ sym (reads_nan binary32 b e)
    by false e = of_bits-to_bits binary64 (of_bits binary32 b) (fits_widens (of_bits binary32 b) (of_bits-fits binary32 b))

-- a word of a double of the same value
pub by_value : (mode : Rounding) (g : Bool) (f : Format) (b bits raised w : ℕ) → of_bits binary64 w ≡ of_bits f b → ToInteger binary64 mode g w bits raised → ToInteger f mode g b bits raised
unfolding to_integer to_integer_exceptions
by_value mode g f b bits raised w same p = (p.0 ∙ ap (integer_of mode g) same, p.1 ∙ ap (integer_exceptions mode g) same)
