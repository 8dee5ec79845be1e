-- What a rounded fraction raises, by its word: from above the least normal value to below infinity at most inexact, and a zero of whole smallest values nothing.
-- Over the format. Assumes nothing.
use Rattle.std.proofs.Common.{◌≡◌, ℕ, suc, ◌+◌, ◌*◌, ◌/◌, ◌%◌, ◌^◌, ◌<◌, ◌≤◌, min, Bool, true, false, ◌&&◌, ltb, leb, sym, refl, ap, ◌∙◌, subst, inl, inr, le_trans, lt_of_le_of_lt, mul-pos, arith, lit<, pow_pos, le-ltb}
use native.Mathlib.Nat.{div-div-eq-div-mul}
use borrow.Author.Tests.{lt-leb}
use lib.Ieee.{Format, binary32, binary64, prec, low, hid, ones, top, to_bits}
use lib.Ieee.Fits.{kept-lt}
use Rattle.rounding.specs.Rounding.{cut_to, dropped, rounded, exact, over, tiny}
use Rattle.rounding.specs.declared.rounding.Rounding.{Rounding}
use Rattle.rounding.specs.declared.rounding.Rounding.TheVariants.{Nearest}
use Rattle.packing.specs.Pack.{ceiling}
use Rattle.exceptions.specs.Exceptions.{settled_exceptions, fraction_exceptions}
use Rattle.floats.proofs.Units.{Lead}
use Rattle.rounding.proofs.Cutting.{cut_le}
use Rattle.packing.proofs.Written.{ceiling-le, over_is, tiny_is}
use Rattle.packing.proofs.Formed.{Lead-digit, rounded_word, word_rest}
use Rattle.quiet.specs.Quiet.{Within, Quiet}

-- the pattern that is kept, and what is told of it
module _ (mode : Rounding) (f : Format) (s : Bool) (num den : ℕ) (D : 0 < den) where
  abbrev n : ℕ
  n = num * 2 ^ low f

  abbrev k : ℕ
  k = dropped f (n / den)

  abbrev u : ℕ
  u = den * 2 ^ k

  abbrev c : ℕ
  c = cut_to mode s n u

  U : 0 < u
  U = mul-pos D (pow_pos k)

  whole : n / den / 2 ^ k ≡ n / u
  whole = div-div-eq-div-mul n den (2 ^ k)

  small : n / u < 2 ^ prec f
  small = subst (λ (x : ℕ). x < 2 ^ prec f) whole (kept-lt (prec f) (n / den))

  leads : Lead f k (n / u)
  leads = subst (λ (x : ℕ). Lead f k x) whole (Lead-digit f (n / den))

  over_at : over mode f s num den ≡ leb (ones f * hid f) (k * hid f + c)
  over_at = over_is mode f s num den k n u D U refl small leads

  tiny_at : tiny f num den ≡ (ltb 0 n && ltb (n / u) (hid f))
  tiny_at = tiny_is mode f s num den k n u D U refl small leads

  rest_at : to_bits f (rounded mode f s num den) % top f ≡ min (k * hid f + c) (ceiling mode f s)
  rest_at =
      ap (λ (x : ℕ). x % top f) (rounded_word mode f s num den D).2
      ∙ word_rest f s (min (k * hid f + c) (ceiling mode f s)) (lt_of_le_of_lt (le_trans (second (k * hid f + c) (ceiling mode f s)) (ceiling-le mode f s)) (ones-lt f))
    where
      second : (a b : ℕ) → min a b ≤ b
      second a b = omega arith

      ones-lt : (f : Format) → ones f * hid f < top f
      ones-lt binary32 = lit< tt
      ones-lt binary64 = lit< tt

module _ (f : Format) (s : Bool) (num den : ℕ) (D : 0 < den) (h : Within f (to_bits f (rounded Nearest f s num den))) where
  abbrev j : ℕ
  j = k Nearest f s num den D

  abbrev q : ℕ
  q = n Nearest f s num den D / u Nearest f s num den D

  abbrev b : ℕ
  b = c Nearest f s num den D

  bounds : (hid f < min (j * hid f + b) (ones f * hid f)) × (min (j * hid f + b) (ones f * hid f) < ones f * hid f)
  bounds = subst (λ (x : ℕ). (hid f < x) × (x < ones f * hid f)) (rest_at Nearest f s num den D) h

  not_over : over Nearest f s num den ≡ false
  not_over = over_at Nearest f s num den D ∙ lt-leb (ones f * hid f) (j * hid f + b) (first (j * hid f + b) (ones f * hid f) bounds.1)
    where
      first : (x y : ℕ) → min x y < y → x < y
      first x y l = omega arith

  -- all the digits that the format keeps are in use
  full : hid f ≤ q
  full = by (leads Nearest f s num den D)
    where
      some : (h c q : ℕ) → h < 0 * h + c → c ≤ suc q → h ≤ q
      some h c q l m = omega arith

      above : (a x y : ℕ) → a < min x y → a < x
      above a x y l = omega arith

      by : Lead f j q → hid f ≤ q
      by (inl z) = some (hid f) b q (subst (λ (x : ℕ). hid f < x * hid f + b) z (above (hid f) (j * hid f + b) (ones f * hid f) bounds.0)) (cut_le Nearest s (n Nearest f s num den D) (u Nearest f s num den D))
      by (inr g) = g

  not_tiny : tiny f num den ≡ false
  not_tiny = tiny_at Nearest f s num den D ∙ ap (λ (t : Bool). ltb 0 (n Nearest f s num den D) && t) (le-ltb q (hid f) full) ∙ off (ltb 0 (n Nearest f s num den D))
    where
      off : (t : Bool) → (t && false) ≡ false
      off true = refl
      off false = refl

  pub fraction_Quiet : Quiet (fraction_exceptions Nearest f s num den)
  unfolding fraction_exceptions
  fraction_Quiet =
      subst Quiet
      (sym (ap (λ (o : Bool). settled_exceptions (exact f num den) o (tiny f num den)) not_over ∙ ap (λ (t : Bool). settled_exceptions (exact f num den) false t) not_tiny))
      (either (exact f num den))
    where
      either : (x : Bool) → Quiet (settled_exceptions x false false)
      either true = inl refl
      either false = inr refl
