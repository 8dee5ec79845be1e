-- What callers need: no result is longer than its word, an integer as a float is never subnormal, so that flushing does not change it, and what is raised. Assumes nothing.
use mathlib.Core.Path.{◌≡◌, sym, ap, ◌∙◌, subst}
use mathlib.Core.Logic.{inl, inr}
use mathlib.Core.Bool.{Bool, true, false, ◌&&◌, cond, and-false}
use Prim.Native.Nat.{ℕ, suc, ◌+◌, ◌-◌, ◌*◌, ◌/◌, ◌%◌, ◌^◌, ◌≤◌, ◌<◌}
use native.Mathlib.Nat.{le_trans, le_of_eq, lt_of_le_of_lt, mul-le-mul_right, eq-zero-or-pos, div-one, div-div-eq-div-mul}
use native.Mathlib.Omega.{arith}
use lib.Dec.{leb, ltb, eqb, lit≤, lit<}
use lib.Pow.{pow-add, pow-lt, shl_lt}
use lib.Ieee.{Float, nan, inf, fin, Format, binary32, binary64, prec, emax, low, size, up, down, hid, of_bits, to_bits}
use lib.Ieee.Digits.{size-le}
use lib.Ieee.Fits.{kept-lt}
use borrow.Author.Tests.{le-ltb, lt-leb}
use Rattle.rounding.specs.Rounding.{cut_to, rounded, limit, dropped, exact, over, tiny}
use Rattle.rounding.specs.declared.rounding.Rounding.{Rounding}
use Rattle.rounding.proofs.Cutting.{cut_le}
use Rattle.rounding.specs.declared.rounding.Rounding.TheVariants.{Nearest}
use Rattle.packing.specs.Pack.{IsSettled}
use Rattle.exceptions.specs.Exceptions.{invalid, inexact, settled_exceptions, fraction_exceptions}
use Rattle.integers.proofs.Whole.{double_any, double_exact}
use Rattle.integers.specs.Integer.{from_integer, from_integer_exceptions, outside, integer_exceptions, to_integer_exceptions}

-- ---- integers as floats

least : (f : Format) → hid f * 1 ≤ 1 * 2 ^ low f
least binary32 = lit≤ tt
least binary64 = lit≤ tt

-- as a double it is exact, so that every mode gives the same
pub from_integer_exact : (mode : Rounding) (signed : Bool) (w : ℕ) → w < 2 ^ 32 → from_integer binary64 Nearest signed w ≡ from_integer binary64 mode signed w
unfolding from_integer
from_integer_exact mode signed w h = go (signed && leb (2 ^ 31) w)
  where
    go : (t : Bool) → to_bits binary64 (cond t (rounded Nearest binary64 true (2 ^ 32 - w) 1) (rounded Nearest binary64 false w 1))
        ≡ to_bits binary64 (cond t (rounded mode binary64 true (2 ^ 32 - w) 1) (rounded mode binary64 false w 1))
    go true = double_any mode true (2 ^ 32 - w) (omega arith)
    go false = double_any mode false w (omega arith)

-- a format's word that is the mode's is a double's of every mode
pub every_mode : (f : Format) (by mode : Rounding) (signed : Bool) (w bits : ℕ) → w < 2 ^ 32 → bits ≡ from_integer f by signed w → f ≡ binary64 → bits ≡ from_integer binary64 mode signed w
every_mode f by mode signed w bits h p e = p ∙ ap (λ (g : Format). from_integer g by signed w) e ∙ sym (from_integer_exact by signed w h) ∙ from_integer_exact mode signed w h

-- ---- what integers as floats raise

-- no integer is too large for a format, nor tiny
module _ (mode : Rounding) (f : Format) (s : Bool) (n : ℕ) (h : n < 2 ^ 53) where
  abbrev w : ℕ
  w = n * 2 ^ low f / 1

  abbrev k : ℕ
  k = dropped f w

  few : cut_to mode s (n * 2 ^ low f) (1 * 2 ^ k) ≤ 2 ^ prec f
  few = le_trans (cut_le mode s (n * 2 ^ low f) (1 * 2 ^ k)) (subst (λ (x : ℕ). x < 2 ^ prec f) (div-div-eq-div-mul (n * 2 ^ low f) 1 (2 ^ k)) (kept-lt (prec f) w))

  never_over : over mode f s n 1 ≡ false
  unfolding over
  never_over =
      lt-leb (limit f) (cut_to mode s (n * 2 ^ low f) (1 * 2 ^ k) * 2 ^ k)
      (lt_of_le_of_lt (mul-le-mul_right (2 ^ k) few)
      (lt_of_le_of_lt (le_of_eq (sym (pow-add 2 (prec f) k))) (pow-lt (under f (size w) (size-le w (53 + low f) (subst (λ (x : ℕ). x < 2 ^ (53 + low f)) (sym (div-one (n * 2 ^ low f))) (shl_lt 53 (low f) h)))))))
    where
      under : (f : Format) (z : ℕ) → z ≤ 53 + low f → prec f + (z - prec f) < low f + suc (emax f)
      under binary32 z l = omega arith
      under binary64 z l = omega arith

  never_tiny : tiny f n 1 ≡ false
  unfolding tiny
  never_tiny = elim (eq-zero-or-pos n) [
    | inl z ↦ ap (λ (t : Bool). t && ltb (n * 2 ^ low f) (hid f * 1)) (le-ltb 0 n (le_of_eq z))
    | inr p ↦ ap (λ (t : Bool). ltb 0 n && t) (le-ltb (n * 2 ^ low f) (hid f * 1) (le_trans (least f) (mul-le-mul_right (2 ^ low f) p))) ∙ and-false (ltb 0 n)
  ]

  integer_fraction : cond (exact f n 1) 0 inexact ≡ fraction_exceptions mode f s n 1
  unfolding fraction_exceptions
  integer_fraction =
      sym (ap (λ (o : Bool). settled_exceptions (exact f n 1) o (tiny f n 1)) never_over ∙ ap (settled_exceptions (exact f n 1) false) never_tiny)

-- a double settled to nearest is settled in every mode, and nothing is dropped from it
pub double_settled : (mode : Rounding) (s : Bool) (n bits : ℕ) (x o t : Bool) → n < 2 ^ 53 → IsSettled Nearest binary64 s n 1 bits x o t → IsSettled mode binary64 s n 1 bits true false false
double_settled mode s n bits x o t h p = record {
  bits_are = p.bits_are ∙ double_any mode s n h;
  exact_is = sym (double_exact n h);
  over_is = sym (never_over mode binary64 s n h);
  tiny_is = sym (never_tiny mode binary64 s n h);
}

-- it is what rounding raises, in every mode
pub from_integer_raises : (f : Format) (mode : Rounding) (signed : Bool) (w : ℕ) → w < 2 ^ 32
    → from_integer_exceptions f signed w ≡ cond (signed && leb (2 ^ 31) w) (fraction_exceptions mode f true (2 ^ 32 - w) 1) (fraction_exceptions mode f false w 1)
unfolding from_integer_exceptions
from_integer_raises f mode signed w h = go (signed && leb (2 ^ 31) w)
  where
    go : (t : Bool) → cond (exact f (cond t (2 ^ 32 - w) w) 1) 0 inexact ≡ cond t (fraction_exceptions mode f true (2 ^ 32 - w) 1) (fraction_exceptions mode f false w 1)
    go true = integer_fraction mode f true (2 ^ 32 - w) (omega arith)
    go false = integer_fraction mode f false w (omega arith)

-- as a double it raises nothing
pub from_integer_silent : (signed : Bool) (w : ℕ) → w < 2 ^ 32 → from_integer_exceptions binary64 signed w ≡ 0
unfolding from_integer_exceptions
from_integer_silent signed w h = go (signed && leb (2 ^ 31) w)
  where
    go : (t : Bool) → cond (exact binary64 (cond t (2 ^ 32 - w) w) 1) 0 inexact ≡ 0
    go true = ap (λ (x : Bool). cond x 0 inexact) (double_exact (2 ^ 32 - w) (omega arith))
    go false = ap (λ (x : Bool). cond x 0 inexact) (double_exact w (omega arith))

inexact-lt : (x : Bool) → cond x 0 inexact < 32
inexact-lt true = lit< tt
inexact-lt false = lit< tt

pub from_integer_raises_lt : (f : Format) (signed : Bool) (w : ℕ) → from_integer_exceptions f signed w < 32
unfolding from_integer_exceptions
from_integer_raises_lt f signed w = inexact-lt (exact f (cond (signed && leb (2 ^ 31) w) (2 ^ 32 - w) w) 1)

pub to_integer_raises_lt : (f : Format) (mode : Rounding) (signed : Bool) (b : ℕ) → to_integer_exceptions f mode signed b < 32
unfolding to_integer_exceptions integer_exceptions
to_integer_raises_lt f mode signed b = go (of_bits f b)
  where
    either : (t x : Bool) → cond t invalid (cond x 0 inexact) < 32
    either true x = lit< tt
    either false x = inexact-lt x

    go : (v : Float) → integer_exceptions mode signed v < 32
    go nan = lit< tt
    go (inf s) = lit< tt
    go (fin s m e) = either (outside signed s (cut_to mode s (m * up e) (down e))) (eqb (m * up e % down e) 0)
