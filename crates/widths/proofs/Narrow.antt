-- Narrowing a value to a format. Assumes nothing.
use mathlib.Core.Path.{◌≡◌, refl, sym, ap, ◌∙◌, subst}
use mathlib.Core.Logic.{inr}
use mathlib.Core.Bool.{Bool, true, false, ◌&&◌, cond, and-false}
use Prim.Native.Nat.{ℕ, ◌+◌, ◌-◌, ◌*◌, ◌/◌, ◌%◌, ◌^◌, ◌≤◌, ◌<◌, min, Ordering}
use native.Mathlib.Nat.{le_trans, le_of_eq, mul_assoc, min-eq_left, mod-lt, div-div-eq-div-mul}
use native.Mathlib.Decide.{dec_lt}
use native.Mathlib.Omega.{arith}
use lib.Dec.{leb, ltb, eqb, lit<}
use borrow.Author.Tests.{le-ltb}
use lib.Pow.{pow-add, pow_pos}
use lib.Ieee.{Float, nan, inf, fin, Format, binary32, binary64, up, down, hid, ones, top, of_bits, to_bits, nan_bits}
use lib.Ieee.Fits.{down_pos, nearest-le}
use lib.Ieee.Exact.{HasValue}
use Rattle.floats.specs.Flush.{flush}
use Rattle.rounding.specs.Rounding.{rounding_of, rounded, exact, over, tiny, move, cut_to, increment}
use Rattle.packing.specs.Pack.{ceiling, packed, IsSettled}
use Rattle.nans.specs.Nan.{resized}
use Rattle.nans.proofs.Choosing.{no_nan, a_nan}
use Rattle.exceptions.specs.Exceptions.{settled_exceptions, fraction_exceptions, nan_exceptions, flushed_exceptions}
use Rattle.exceptions.proofs.Laws.{flushed_none}
use Rattle.widths.specs.Convert.{narrowed, on_finite, narrow_number, narrow, narrowed_exceptions, narrow_exceptions, IsNarrowed}
use Rattle.rounding.specs.declared.rounding.Rounding.{Rounding}
use Rattle.rounding.specs.declared.rounding.Rounding.TheVariants.{Nearest, Up, Down, Zero}
use Rattle.floats.proofs.Units.{slide, sign_bit, reads_low, reads_normal, reads_inf}
use Rattle.floats.proofs.Patterns.{nan_of_fields}
use Rattle.packing.proofs.Written.{ceiling-le, rounded_bits, exact_is, over_is, tiny_is, rounded_same, exact_same, over_same, tiny_same}
use Rattle.rounding.proofs.Cutting.{mode_up, mode_down, mode-zero, move-le, cut_ge, cut_by_sum}
use Rattle.floats.proofs.Flushing.{flush_large}
use Rattle.packing.proofs.Settle.{settled_same}

-- ---- by the value's size a / c

pub narrowed_value : (mode : Rounding) (f : Format) (v : Float) (s : Bool) (a c : ℕ) → 0 < c → HasValue v s a c → narrowed mode f v ≡ rounded mode f s a c
unfolding narrowed
narrowed_value mode f nan s a c C h = absurd h
narrowed_value mode f (inf t) s a c C h = absurd h
narrowed_value mode f (fin t m e) s a c C h = ap (λ (b : Bool). rounded mode f b (m * up e) (down e)) h.0 ∙ rounded_same mode f s (m * up e) (down e) a c (down_pos e) C h.1

-- a test that equal fractions pass alike
test_value : (g : Bool → ℕ → ℕ → Bool) → ((s : Bool) (a b c d : ℕ) → 0 < b → 0 < d → a * d ≡ c * b → g s a b ≡ g s c d)
    → (d : Bool) (v : Float) (s : Bool) (a c : ℕ) → 0 < c → HasValue v s a c → on_finite d g v ≡ g s a c
unfolding on_finite
test_value g same d nan s a c C h = absurd h
test_value g same d (inf t) s a c C h = absurd h
test_value g same d (fin t m e) s a c C h = ap (λ (b : Bool). g b (m * up e) (down e)) h.0 ∙ same s (m * up e) (down e) a c (down_pos e) C h.1

-- the stage's fraction m * 512 * 2 ^ e / 2 ^ 2209, of a double's m * 2 ^ x smallest values
units : (m x e : ℕ) → 9 + e + 1074 ≡ x + 2209 → m * 512 * 2 ^ e * 2 ^ 1074 ≡ m * 2 ^ x * 2 ^ 2209
units m x e h = ap (λ (z : ℕ). z * 2 ^ 1074) (mul_assoc m (2 ^ 9) (2 ^ e) ∙ ap (λ (z : ℕ). m * z) (sym (pow-add 2 9 e))) ∙ slide m (9 + e) 1074 x 2209 h

settled_narrowed : (mode : Rounding) (f : Format) (v : Float) (s : Bool) (a c bits : ℕ) (x o t : Bool) → 0 < c → HasValue v s a c → IsSettled mode f s a c bits x o t → IsNarrowed mode f v bits x o t
settled_narrowed mode f v s a c bits x o t C h q = record {
  bits_are = q.bits_are ∙ ap (to_bits f) (sym (narrowed_value mode f v s a c C h));
  exact_is = q.exact_is ∙ sym (test_value (λ (s : Bool). exact f) (exact_same mode f) true v s a c C h);
  over_is = q.over_is ∙ sym (test_value (over mode f) (over_same mode f) false v s a c C h);
  tiny_is = q.tiny_is ∙ sym (test_value (λ (s : Bool). tiny f) (tiny_same mode f) false v s a c C h);
}

by_stage : (mode : Rounding) (f : Format) (v : Float) (s : Bool) (m k e bits : ℕ) (x o t : Bool) → HasValue v s (m * 2 ^ k) (2 ^ 1074) → 9 + e + 1074 ≡ k + 2209
    → IsSettled mode f s (m * 512 * 2 ^ e) (2 ^ 2209) bits x o t → IsNarrowed mode f v bits x o t
by_stage mode f v s m k e bits x o t h d p =
    settled_narrowed mode f v s (m * 2 ^ k) (2 ^ 1074) bits x o t (pow_pos 1074) h
    (settled_same mode f s (m * 512 * 2 ^ e) (2 ^ 2209) (m * 2 ^ k) (2 ^ 1074) bits x o t (pow_pos 2209) (pow_pos 1074) (units m k e d) p)

-- ---- a double by its fields

abbrev field : ℕ → ℕ
field b = b % 0x8000_0000_0000_0000 / 0x10_0000_0000_0000

abbrev digits : ℕ → ℕ
digits b = b % 0x10_0000_0000_0000

abbrev neg : ℕ → Bool
neg b = leb 0x8000_0000_0000_0000 b

-- what is no finite value stays, and nothing is rounded
kept_as_is : (mode : Rounding) (f : Format) (v w : Float) (bits : ℕ) → v ≡ w → narrowed mode f w ≡ w → ((d : Bool) (g : Bool → ℕ → ℕ → Bool) → on_finite d g w ≡ d) → bits ≡ to_bits f w
    → IsNarrowed mode f v bits true false false
kept_as_is mode f v w bits e n g p = record {
  bits_are = p ∙ sym (ap (λ (z : Float). to_bits f (narrowed mode f z)) e ∙ ap (to_bits f) n);
  exact_is = sym (ap (on_finite true (λ (s : Bool). exact f)) e ∙ g true (λ (s : Bool). exact f));
  over_is = sym (ap (on_finite false (over mode f)) e ∙ g false (over mode f));
  tiny_is = sym (ap (on_finite false (λ (s : Bool). tiny f)) e ∙ g false (λ (s : Bool). tiny f));
}

pub narrow_inf : (mode : Rounding) (f : Format) (b sign : ℕ) → field b ≡ 2047 → digits b ≡ 0 → sign ≡ cond (neg b) (top f) 0
    → IsNarrowed mode f (of_bits binary64 b) (sign + ones f * hid f) true false false
unfolding narrowed on_finite to_bits
narrow_inf mode f b sign x t e =
    kept_as_is mode f (of_bits binary64 b) (inf (neg b)) (sign + ones f * hid f) (reads_inf binary64 b x t) refl (λ (d : Bool) (g : Bool → ℕ → ℕ → Bool). refl) (ap (λ (z : ℕ). z + ones f * hid f) e)

pub narrow_nan : (mode : Rounding) (f : Format) (b : ℕ) → field b ≡ 2047 → (digits b ≡ 0 → ⊥) → IsNarrowed mode f (of_bits binary64 b) (ones f * hid f + hid f / 2) true false false
unfolding narrowed on_finite to_bits
narrow_nan mode f b x t = kept_as_is mode f (of_bits binary64 b) nan (ones f * hid f + hid f / 2) (nan_of_fields binary64 b x t) refl (λ (d : Bool) (g : Bool → ℕ → ℕ → Bool). refl) refl

pub narrow_low : (mode : Rounding) (f : Format) (b bits : ℕ) (x o t : Bool) → field b ≡ 0 → IsSettled mode f (neg b) (digits b * 512 * 2 ^ 1126) (2 ^ 2209) bits x o t
    → IsNarrowed mode f (of_bits binary64 b) bits x o t
narrow_low mode f b bits x o t z p = by_stage mode f (of_bits binary64 b) (neg b) (digits b) 0 1126 bits x o t (reads_low binary64 b z) refl p

pub narrow_mid : (mode : Rounding) (f : Format) (b bits : ℕ) (x o t : Bool) → (field b ≡ 0 → ⊥) → (field b ≡ 2047 → ⊥)
    → IsSettled mode f (neg b) ((0x10_0000_0000_0000 + digits b) * 512 * 2 ^ (field b + 1125)) (2 ^ 2209) bits x o t → IsNarrowed mode f (of_bits binary64 b) bits x o t
narrow_mid mode f b bits x o t n l p =
    by_stage mode f (of_bits binary64 b) (neg b) (0x10_0000_0000_0000 + digits b) (field b - 1) (field b + 1125) bits x o t
    (reads_normal binary64 b n l) (exps (field b) n) p
  where
    exps : (x : ℕ) → (x ≡ 0 → ⊥) → 9 + (x + 1125) + 1074 ≡ x - 1 + 2209
    exps x p = omega arith

-- ---- any word, flushed as a single

abbrev pub Narrows : ℕ → ℕ → ℕ → ℕ → Type 0
Narrows control b bits raised = (bits ≡ narrow control b) × (raised ≡ narrow_exceptions control b)

-- what rounding raises, from its tests
settled_raises : (mode : Rounding) (f : Format) (v : Float) (bits : ℕ) (x o t : Bool) → IsNarrowed mode f v bits x o t → settled_exceptions x o t ≡ narrowed_exceptions mode f v
unfolding on_finite narrowed_exceptions fraction_exceptions
settled_raises mode f v bits x o t p = tests x o t _ _ _ p.exact_is p.over_is p.tiny_is ∙ of v
  where
    tests : (x o t x' o' t' : Bool) → x ≡ x' → o ≡ o' → t ≡ t' → settled_exceptions x o t ≡ settled_exceptions x' o' t'
    tests x o t x' o' t' d e g = rw (d, e, g)

    of : (v : Float) → settled_exceptions (on_finite true (λ s. exact f) v) (on_finite false (over mode f) v) (on_finite false (λ s. tiny f) v) ≡ narrowed_exceptions mode f v
    of nan = refl
    of (inf s) = refl
    of (fin s m e) = refl

module _ (control b : ℕ) where
  abbrev value : Rounding → Float
  value mode = narrowed mode binary32 (of_bits binary64 b)

  pub narrow_number_lem : (mode : Rounding) (bits : ℕ) (x o t : Bool) → mode ≡ rounding_of control → b % 0x8000_0000_0000_0000 ≤ 0x7FF0_0000_0000_0000 → IsNarrowed mode binary32 (of_bits binary64 b) bits x o t
      → Narrows control b (flush binary32 control bits) (flushed_exceptions binary32 control bits (settled_exceptions x o t))
  unfolding narrow narrow_number narrow_exceptions
  narrow_number_lem mode bits x o t g h p = (
    ap (flush binary32 control) (p.bits_are ∙ ap (λ (z : Rounding). to_bits binary32 (value z)) g) ∙ by _ _,
    ap (λ (w : ℕ). flushed_exceptions binary32 control w (settled_exceptions x o t)) p.bits_are
        ∙ ap (flushed_exceptions binary32 control (to_bits binary32 (value mode))) (settled_raises mode binary32 (of_bits binary64 b) bits x o t p)
        ∙ ap (λ (z : Rounding). flushed_exceptions binary32 control (to_bits binary32 (value z)) (narrowed_exceptions z binary32 (of_bits binary64 b))) g
        ∙ by _ _,
  )
    where
      by : (y z : ℕ) → z ≡ cond (nan_bits binary64 b) y z
      by y z = sym (ap (λ (t : Bool). cond t y z) (no_nan binary64 b h))

  pub narrow_resized : (bits raised : ℕ) → 0x7FF0_0000_0000_0000 < b % 0x8000_0000_0000_0000 → bits ≡ resized binary64 binary32 control b → raised ≡ nan_exceptions binary64 b b → Narrows control b bits raised
  unfolding narrow narrow_exceptions
  narrow_resized bits raised h e d = (e ∙ by _ _, d ∙ by _ _)
    where
      by : (y z : ℕ) → y ≡ cond (nan_bits binary64 b) y z
      by y z = sym (ap (λ (t : Bool). cond t y z) (a_nan binary64 b h))

-- ---- a normal single, or what is too large for one, from the double's pattern as it stands

before : (q n : ℕ) → q < n → q ≤ n - 1
before q n h = omega arith

-- what is cut from less than the infinity's pattern is no more than the mode gives
under_ceiling : (mode : Rounding) (f : Format) (s : Bool) (q : ℕ) (o : Ordering) (x : Bool) → q < ones f * hid f → move mode s q o x ≤ ceiling mode f s
under_ceiling Nearest f s q o x h = le_trans (nearest-le q o) h
under_ceiling Up f true q o x h = before q (ones f * hid f) h
under_ceiling Up f false q o x h = le_trans (move-le Up false q o x) h
under_ceiling Down f true q o x h = le_trans (move-le Down true q o x) h
under_ceiling Down f false q o x h = before q (ones f * hid f) h
under_ceiling Zero f s q o x h = before q (ones f * hid f) h

-- what carries depends on the last digit that is kept alone
increment_same : (mode : Rounding) (s : Bool) (a b u : ℕ) → a / u % 2 ≡ b / u % 2 → increment mode s a u ≡ increment mode s b u
increment_same Nearest s a b u e = ap (λ (z : ℕ). u / 2 - 1 + z) e
increment_same Up s a b u e = refl
increment_same Down s a b u e = refl
increment_same Zero s a b u e = refl

-- the increment of a mode other than 00, by its two bits
module _ (control m : ℕ) (o : control / 2 ^ 22 % 4 ≡ 0 → ⊥) where
  at : (mode : Rounding) (s : Bool) (r : ℕ) → mode ≡ rounding_of control → r ≡ increment mode s m (2 ^ 29) → r ≡ increment (rounding_of control) s m (2 ^ 29)
  at mode s r e p = p ∙ ap (λ (z : Rounding). increment z s m (2 ^ 29)) e

  pub below_away : control / 2 ^ 22 % 2 ≡ 0 → 0x1FFF_FFFF ≡ increment (rounding_of control) true m (2 ^ 29)
  below_away z = at Down true 0x1FFF_FFFF (mode_down control o (λ e. omega arith) (omega arith)) refl

  -- bit 23 is the mode's upper one
  upper : control / 2 ^ 23 % 2 ≡ control / 2 ^ 22 % 4 / 2
  upper = ap (λ (z : ℕ). z % 2) (sym (div-div-eq-div-mul control (2 ^ 22) 2)) ∙ go (control / 2 ^ 22)
    where
      go : (q : ℕ) → q / 2 % 2 ≡ q % 4 / 2
      go q = omega arith

  pub above_away : control / 2 ^ 23 % 2 ≡ 0 → 0x1FFF_FFFF ≡ increment (rounding_of control) false m (2 ^ 29)
  above_away z = at Up false 0x1FFF_FFFF (mode_up control o (only (control / 2 ^ 22 % 4) (mod-lt (control / 2 ^ 22) (lit< tt)) o (sym upper ∙ z))) refl
    where
      only : (x : ℕ) → x < 4 → (x ≡ 0 → ⊥) → x / 2 ≡ 0 → x ≡ 1
      only x l n z = omega arith

  pub below_kept : (control / 2 ^ 22 % 2 ≡ 0 → ⊥) → 0 ≡ increment (rounding_of control) true m (2 ^ 29)
  below_kept n = go (dec_lt (control / 2 ^ 22 % 4) 3)
    where
      go : Dec (control / 2 ^ 22 % 4 < 3) → 0 ≡ increment (rounding_of control) true m (2 ^ 29)
      go (yes l) = at Up true 0 (mode_up control o (omega arith)) refl
      go (no k) = at Zero true 0 (mode-zero control o (λ e. omega arith) (λ e. omega arith)) refl

  pub above_kept : (control / 2 ^ 23 % 2 ≡ 0 → ⊥) → 0 ≡ increment (rounding_of control) false m (2 ^ 29)
  above_kept n = go (dec_lt (control / 2 ^ 22 % 4) 3)
    where
      high : (x : ℕ) → (x / 2 ≡ 0 → ⊥) → (x ≡ 1 → ⊥) × (x < 3 → x ≡ 2) × ((x < 3 → ⊥) → x ≡ 2 → ⊥)
      high x n = (λ e. omega arith, λ l. omega arith, λ l e. omega arith)

      is : (control / 2 ^ 22 % 4 ≡ 1 → ⊥) × (control / 2 ^ 22 % 4 < 3 → control / 2 ^ 22 % 4 ≡ 2) × ((control / 2 ^ 22 % 4 < 3 → ⊥) → control / 2 ^ 22 % 4 ≡ 2 → ⊥)
      is = high (control / 2 ^ 22 % 4) (λ e. n (upper ∙ e))

      go : Dec (control / 2 ^ 22 % 4 < 3) → 0 ≡ increment (rounding_of control) false m (2 ^ 29)
      go (yes l) = at Down false 0 (mode_down control o is.0 (is.1 l)) refl
      go (no k) = at Zero false 0 (mode-zero control o is.0 (is.2 k)) refl

-- an even number of units goes through the cut
cut_even : (mode : Rounding) (s : Bool) (k m : ℕ) → cut_to mode s (k * 2 ^ 30 + m) (2 ^ 29) ≡ k * 2 + cut_to mode s m (2 ^ 29)
cut_even mode s k m =
    sym (cut_by_sum (k * 2 ^ 30 + m) (2 ^ 28) (lit< tt) mode s)
    ∙ ap (λ (z : ℕ). (k * 2 ^ 30 + m + z) / 2 ^ 29) (increment_same mode s (k * 2 ^ 30 + m) m (2 ^ 29) (parity k m))
    ∙ over k m (increment mode s m (2 ^ 29))
    ∙ ap (λ (x : ℕ). k * 2 + x) (cut_by_sum m (2 ^ 28) (lit< tt) mode s)
  where
    parity : (k m : ℕ) → (k * 2 ^ 30 + m) / 2 ^ 29 % 2 ≡ m / 2 ^ 29 % 2
    parity k m = omega arith

    over : (k m c : ℕ) → (k * 2 ^ 30 + m + c) / 2 ^ 29 ≡ k * 2 + (m + c) / 2 ^ 29
    over k m c = omega arith

-- cut as it stands, and less by the difference of the exponents
module _ (mode : Rounding) (s : Bool) (size kept : ℕ) (h : 0x3800_0000_0000_0000 ≤ size) (p : kept ≡ cut_to mode s size (2 ^ 29)) where
  raised : kept ≡ 0x1_C000_0000 + cut_to mode s (size - 0x3800_0000_0000_0000) (2 ^ 29)
  raised = p ∙ ap (λ (z : ℕ). cut_to mode s z (2 ^ 29)) (apart size h) ∙ cut_even mode s 0xE000_0000 (size - 0x3800_0000_0000_0000)
    where
      apart : (size : ℕ) → 0x3800_0000_0000_0000 ≤ size → size ≡ 0xE000_0000 * 2 ^ 30 + (size - 0x3800_0000_0000_0000)
      apart size h = omega arith

  lowered : (0x1_C000_0000 ≤ kept) × (kept - 0x1_C000_0000 ≡ cut_to mode s (size - 0x3800_0000_0000_0000) (2 ^ 29))
  lowered = go kept (cut_to mode s (size - 0x3800_0000_0000_0000) (2 ^ 29)) raised
    where
      go : (k x : ℕ) → k ≡ 0x1_C000_0000 + x → (0x1_C000_0000 ≤ k) × (k - 0x1_C000_0000 ≡ x)
      go k x e = (omega arith, omega arith)

module _ (mode : Rounding) (s : Bool) (X kept : ℕ) (p : kept ≡ cut_to mode s X (2 ^ 29)) where
  kept_under : X < 0x0FF0_0000_0000_0000 → kept ≤ ceiling mode binary32 s
  kept_under h = le_trans (le_of_eq p) (under_ceiling mode binary32 s (X / 2 ^ 29) _ _ (high X h))
    where
      high : (x : ℕ) → x < 0x0FF0_0000_0000_0000 → x / 2 ^ 29 < 0x7F80_0000
      high x h = omega arith

  kept_most : X < 0x0FF0_0000_0000_0000 → kept ≤ 0x7F80_0000
  kept_most h = le_trans (kept_under h) (ceiling-le mode binary32 s)

  kept_least : 2 ^ 52 ≤ X → 2 ^ 23 ≤ kept
  kept_least h = le_trans (le_trans (low X h) (cut_ge mode s X (2 ^ 29))) (le_of_eq (sym p))
    where
      low : (x : ℕ) → 2 ^ 52 ≤ x → 2 ^ 23 ≤ x / 2 ^ 29
      low x h = omega arith

  apart : (k m : ℕ) → X ≡ k * 2 ^ 52 + m → kept ≡ k * 2 ^ 23 + cut_to mode s m (2 ^ 29)
  apart k m e =
      p
      ∙ ap (λ (x : ℕ). cut_to mode s x (2 ^ 29)) (e ∙ ap (λ (x : ℕ). x + m) (units k))
      ∙ cut_even mode s (k * 2 ^ 22) m
      ∙ ap (λ (x : ℕ). x + cut_to mode s m (2 ^ 29)) (pairs k)
    where
      units : (k : ℕ) → k * 2 ^ 52 ≡ k * 2 ^ 22 * 2 ^ 30
      units k = omega arith

      pairs : (k : ℕ) → k * 2 ^ 22 * 2 ≡ k * 2 ^ 23
      pairs k = omega arith

module _ (mode : Rounding) (b : ℕ) (h : 0x3810_0000_0000_0000 ≤ b % 0x8000_0000_0000_0000) (l : b % 0x8000_0000_0000_0000 < 0x47F0_0000_0000_0000) where
  fields : (897 ≤ field b) × (field b < 1151)
  fields = (omega arith, omega arith)

  parts : b % 0x8000_0000_0000_0000 - 0x3800_0000_0000_0000 ≡ (field b - 897) * 2 ^ 52 + (2 ^ 52 + digits b)
  parts = omega arith

  abbrev m : ℕ
  m = 2 ^ 52 + digits b

  valued : HasValue (of_bits binary64 b) (neg b) (m * 2 ^ (field b - 1)) (2 ^ 1074)
  valued = reads_normal binary64 b (some (field b) fields.0) (few (field b) fields.1)
    where
      some : (x : ℕ) → 897 ≤ x → x ≡ 0 → ⊥
      some x g e = omega arith

      few : (x : ℕ) → x < 1151 → x ≡ 2047 → ⊥
      few x g e = omega arith

  scale : m * 2 ^ (field b - 1) * 2 ^ 149 * 2 ^ 29 ≡ m * (2 ^ 1074 * 2 ^ (field b - 897))
  scale = go m (field b) fields.0
    where
      exps : (x : ℕ) → 897 ≤ x → x - 1 + 149 + 29 ≡ 1074 + (x - 897)
      exps x g = omega arith

      go : (m x : ℕ) → 897 ≤ x → m * 2 ^ (x - 1) * 2 ^ 149 * 2 ^ 29 ≡ m * (2 ^ 1074 * 2 ^ (x - 897))
      go m x g =
          ap (λ (z : ℕ). z * 2 ^ 29) (mul_assoc m (2 ^ (x - 1)) (2 ^ 149) ∙ ap (λ (z : ℕ). m * z) (sym (pow-add 2 (x - 1) 149)))
          ∙ slide m (x - 1 + 149) 29 1074 (x - 897) (exps x g)
          ∙ mul_assoc m (2 ^ 1074) (2 ^ (x - 897))

  under : m / 2 ^ 29 < 2 ^ 24
  under = omega arith

  lead : 2 ^ 23 ≤ m / 2 ^ 29
  lead = omega arith

  -- the stage's numbers, of which 29 digits are dropped
  normal_settled : IsSettled mode binary32 (neg b) (m * 2 ^ (field b - 1)) (2 ^ 1074) (packed mode binary32 (neg b) (field b - 897) (cut_to mode (neg b) m (2 ^ 29))) (eqb (m % 2 ^ 29) 0)
      (leb 0x7F80_0000 ((field b - 897) * 0x80_0000 + cut_to mode (neg b) m (2 ^ 29))) false
  normal_settled = record {
    bits_are = sym (rounded_bits mode binary32 (neg b) (m * 2 ^ (field b - 1)) (2 ^ 1074) (field b - 897) m (2 ^ 29) (pow_pos 1074) (pow_pos 29) scale under (inr lead));
    exact_is = sym (exact_is mode binary32 (neg b) (m * 2 ^ (field b - 1)) (2 ^ 1074) (field b - 897) m (2 ^ 29) (pow_pos 1074) (pow_pos 29) scale under (inr lead));
    over_is = sym (over_is mode binary32 (neg b) (m * 2 ^ (field b - 1)) (2 ^ 1074) (field b - 897) m (2 ^ 29) (pow_pos 1074) (pow_pos 29) scale under (inr lead));
    tiny_is =
        sym (and-false (ltb 0 m))
        ∙ ap (λ (t : Bool). ltb 0 m && t) (sym (le-ltb (m / 2 ^ 29) 0x80_0000 lead))
        ∙ sym (tiny_is mode binary32 (neg b) (m * 2 ^ (field b - 1)) (2 ^ 1074) (field b - 897) m (2 ^ 29) (pow_pos 1074) (pow_pos 29) scale under (inr lead));
  }

  abbrev X : ℕ
  X = b % 0x8000_0000_0000_0000 - 0x3800_0000_0000_0000

  X-lt : X < 0x0FF0_0000_0000_0000
  X-lt = omega arith

  pub normal_most : (kept : ℕ) → kept ≡ cut_to mode (neg b) X (2 ^ 29) → kept ≤ 0x7F80_0000
  normal_most kept p = kept_most mode (neg b) X kept p X-lt

  pub normal_lowered : (kept : ℕ) → kept ≡ cut_to mode (neg b) (b % 0x8000_0000_0000_0000) (2 ^ 29) → (0x1_C000_0000 ≤ kept) × (kept - 0x1_C000_0000 ≡ cut_to mode (neg b) X (2 ^ 29))
  normal_lowered kept p = lowered mode (neg b) (b % 0x8000_0000_0000_0000) kept (omega arith) p

  pub narrow_normal : (control kept bits raised : ℕ) → mode ≡ rounding_of control → b < 2 ^ 64 → kept ≡ cut_to mode (neg b) X (2 ^ 29) → bits ≡ b / 2 ^ 63 * 2 ^ 31 + kept
      → raised ≡ settled_exceptions (eqb (b % 2 ^ 29) 0) (leb 0x7F80_0000 kept) false → Narrows control b bits raised
  narrow_normal control kept bits raised g w p e d =
      let is = apart mode (neg b) X kept p (field b - 897) m parts in
      let large : 2 ^ 23 ≤ bits % 0x8000_0000 = subst (λ (z : ℕ). 2 ^ 23 ≤ z) (sym (rest (b / 0x8000_0000_0000_0000) kept bits e (kept_most mode (neg b) X kept p X-lt))) (kept_least mode (neg b) X kept p (lower b h)) in
      let q = narrow_number_lem control b mode bits (eqb (b % 2 ^ 29) 0) (leb 0x7F80_0000 kept) false g (below b l)
      (subst (λ (z : ℕ). IsNarrowed mode binary32 (of_bits binary64 b) bits (eqb z 0) (leb 0x7F80_0000 kept) false) (left b)
      (subst (λ (z : ℕ). IsNarrowed mode binary32 (of_bits binary64 b) bits (eqb (m % 2 ^ 29) 0) (leb 0x7F80_0000 z) false) (sym is)
      (subst (λ (z : ℕ). IsNarrowed mode binary32 (of_bits binary64 b) z (eqb (m % 2 ^ 29) 0) (leb 0x7F80_0000 ((field b - 897) * 0x80_0000 + cut_to mode (neg b) m (2 ^ 29))) false)
      (sym
      (e
      ∙ ap (λ (z : ℕ). z + kept) (sign_bit 0x8000_0000_0000_0000 b 0x8000_0000 (lit< tt) w)
      ∙ ap (λ (z : ℕ). cond (neg b) 0x8000_0000 0 + z) (sym (min-eq_left (kept_under mode (neg b) X kept p X-lt)) ∙ ap (λ (z : ℕ). min z (ceiling mode binary32 (neg b))) is)))
      (settled_narrowed mode binary32 (of_bits binary64 b) (neg b) (m * 2 ^ (field b - 1)) (2 ^ 1074) _ _ _ _ (pow_pos 1074) valued normal_settled)))) in
      (flush_large binary32 control bits large ∙ q.0, d ∙ sym (flushed_none binary32 control bits _ (inr large)) ∙ q.1)
    where
      lower : (b : ℕ) → 0x3810_0000_0000_0000 ≤ b % 0x8000_0000_0000_0000 → 2 ^ 52 ≤ b % 0x8000_0000_0000_0000 - 0x3800_0000_0000_0000
      lower b h = omega arith

      below : (b : ℕ) → b % 0x8000_0000_0000_0000 < 0x47F0_0000_0000_0000 → b % 0x8000_0000_0000_0000 ≤ 0x7FF0_0000_0000_0000
      below b l = omega arith

      left : (b : ℕ) → (2 ^ 52 + digits b) % 2 ^ 29 ≡ b % 2 ^ 29
      left b = omega arith

      rest : (s kept r : ℕ) → r ≡ s * 0x8000_0000 + kept → kept ≤ 0x7F80_0000 → r % 0x8000_0000 ≡ kept
      rest s kept r e h = omega arith
