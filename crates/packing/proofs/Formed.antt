-- What is rounded has the form c * 2 ^ k of the format's smallest values. So its word has a bound, and is no subnormal's where its size is a normal value's. Over the mode and the format.
-- Assumes nothing.
use mathlib.Core.Path.{◌≡◌, sym, ap, ◌∙◌, subst}
use mathlib.Core.Logic.{inl, inr}
use mathlib.Core.Bool.{Bool, true, false, cond}
use Prim.Native.Nat.{ℕ, ◌+◌, ◌-◌, ◌*◌, ◌/◌, ◌%◌, ◌^◌, ◌≤◌, ◌<◌, min}
use native.Mathlib.Nat.{le_trans, le_of_eq, lt_of_le_of_lt, lt_of_not-le, le_of_suc-le-suc, div-one, div-div-eq-div-mul, le-div_iff_mul-le, mod-eq_of_lt, add-mod_left, zero-add}
use native.Mathlib.Decide.{dec_lt}
use native.Mathlib.Omega.{arith}
use lib.Dec.{lit≤, lit<}
use lib.Pow.{pow-add, pow_pos}
use lib.Ieee.{Format, binary32, binary64, prec, low, size, hid, ones, top, to_bits}
use lib.Ieee.Digits.{size_reaches}
use lib.Ieee.Fits.{kept-lt}
use Rattle.rounding.specs.Rounding.{cut_to, dropped, rounded}
use Rattle.packing.specs.Pack.{ceiling, packed}
use Rattle.rounding.specs.declared.rounding.Rounding.{Rounding}
use Rattle.floats.proofs.Units.{Lead, prec_pos}
use Rattle.rounding.proofs.Cutting.{move_ge, move-le}
use Rattle.packing.proofs.Written.{settled_bits, ceiling-le, ceiling_ge}
use Rattle.floats.proofs.Flushing.{NotSubnormal}

-- ---- the digits that are kept of a whole part w

pub Lead-digit : (f : Format) (w : ℕ) → Lead f (dropped f w) (w / 2 ^ dropped f w)
Lead-digit f w = go (dec_lt (prec f) (size w))
  where
    last : (z p : ℕ) → p < z → z - 1 < z
    last z p h = omega arith

    split : (z p : ℕ) → 0 < p → p < z → p - 1 + (z - p) ≡ z - 1
    split z p P h = omega arith

    nothing : (z p : ℕ) → z ≤ p → z - p ≡ 0
    nothing z p h = omega arith

    go : Dec (prec f < size w) → Lead f (dropped f w) (w / 2 ^ dropped f w)
    go (yes h) =
        inr ((le-div_iff_mul-le (pow_pos (dropped f w))).1
        (le_trans (le_of_eq (sym (pow-add 2 (prec f - 1) (dropped f w)) ∙ ap (λ (x : ℕ). 2 ^ x) (split (size w) (prec f) (prec_pos f) h))) (size_reaches w (size w - 1) (last (size w) (prec f) h))))
    go (no n) = inl (nothing (size w) (prec f) (le_of_suc-le-suc (lt_of_not-le n)))

pub keeps : (f : Format) (w : ℕ) → hid f ≤ w → hid f ≤ w / 2 ^ dropped f w
keeps f w h = elim (Lead-digit f w) [ inl z ↦ subst (λ (x : ℕ). hid f ≤ w / 2 ^ x) (sym z) (subst (λ (x : ℕ). hid f ≤ x) (sym (div-one w)) h) | inr g ↦ g ]

-- ---- a pattern

ones-lt : (f : Format) → ones f * hid f < top f
ones-lt binary32 = lit< tt
ones-lt binary64 = lit< tt

hid-le : (f : Format) → hid f ≤ ones f * hid f - 1
hid-le binary32 = lit≤ tt
hid-le binary64 = lit≤ tt

abbrev kept : Rounding → Format → Bool → ℕ → ℕ → ℕ
kept mode f s k c = min (k * hid f + c) (ceiling mode f s)

kept_under : (mode : Rounding) (f : Format) (s : Bool) (k c : ℕ) → kept mode f s k c < top f
kept_under mode f s k c = lt_of_le_of_lt (le_trans (second (k * hid f + c) (ceiling mode f s)) (ceiling-le mode f s)) (ones-lt f)
  where
    second : (a b : ℕ) → min a b ≤ b
    second a b = omega arith

pub word_rest : (f : Format) (s : Bool) (x : ℕ) → x < top f → (cond s (top f) 0 + x) % top f ≡ x
word_rest f true x h = add-mod_left (top f) x ∙ mod-eq_of_lt h
word_rest f false x h = ap (λ (y : ℕ). y % top f) (zero-add x) ∙ mod-eq_of_lt h

pub word_lt : (f : Format) (s : Bool) (x : ℕ) → x < top f → cond s (top f) 0 + x < 2 * top f
word_lt f true x h = twice (top f) x h
  where
    twice : (t x : ℕ) → x < t → t + x < 2 * t
    twice t x h = omega arith
word_lt f false x h = once (top f) x h
  where
    once : (t x : ℕ) → x < t → 0 + x < 2 * t
    once t x h = omega arith

pub packed-lt : (mode : Rounding) (f : Format) (s : Bool) (k c : ℕ) → packed mode f s k c < 2 * top f
packed-lt mode f s k c = word_lt f s (kept mode f s k c) (kept_under mode f s k c)

pub packed_normal : (mode : Rounding) (f : Format) (s : Bool) (k c : ℕ) → hid f ≤ c → NotSubnormal f (packed mode f s k c)
packed_normal mode f s k c h =
    inr (subst (λ (x : ℕ). hid f ≤ x) (sym (word_rest f s (kept mode f s k c) (kept_under mode f s k c))) (both (hid f) (k * hid f) c (ceiling mode f s) h (le_trans (hid-le f) (ceiling_ge mode f s))))
  where
    both : (h a c b : ℕ) → h ≤ c → h ≤ b → h ≤ min (a + c) b
    both h a c b l m = omega arith

-- ---- a fraction

module _ (mode : Rounding) (f : Format) (s : Bool) (num den : ℕ) (D : 0 < den) where
  abbrev n : ℕ
  n = num * 2 ^ low f

  abbrev k : ℕ
  k = dropped f (n / den)

  abbrev c : ℕ
  c = cut_to mode s n (den * 2 ^ k)

  whole : n / den / 2 ^ k ≡ n / (den * 2 ^ k)
  whole = div-div-eq-div-mul n den (2 ^ k)

  -- what is written
  pub rounded_word : (c ≤ 2 ^ prec f) × Lead f k c × (to_bits f (rounded mode f s num den) ≡ packed mode f s k c)
  unfolding rounded
  rounded_word =
      let most : c ≤ 2 ^ prec f = le_trans (move-le mode s (n / (den * 2 ^ k)) _ _) (subst (λ (x : ℕ). x < 2 ^ prec f) whole (kept-lt (prec f) (n / den))) in
      let lead : Lead f k c =
      elim (Lead-digit f (n / den)) [
        | inl z ↦ inl z
        | inr g ↦ inr (le_trans (subst (λ (x : ℕ). hid f ≤ x) whole g) (move_ge mode s (n / (den * 2 ^ k)) _ _))
      ] in
      (most, lead, settled_bits mode f s c k most lead)
