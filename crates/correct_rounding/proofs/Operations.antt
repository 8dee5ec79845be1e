-- The arithmetic and the conversions are correctly rounded: each is `rounded` of its exact result. Assumes nothing.
use mathlib.Core.Path.{◌≡◌, refl, sym, ap, ◌∙◌, subst}
use mathlib.Core.Bool.{Bool, true, false, not, cond}
use Prim.Native.Nat.{ℕ, ◌-◌, ◌*◌, ◌/◌, ◌%◌, ◌^◌, ◌≤◌, ◌<◌}
use native.Mathlib.Nat.{mul-pos}
use native.Mathlib.Omega.{arith}
use lib.Dec.{lit<}
use lib.Ieee.{Float, nan, inf, fin, Format, binary32, binary64, unlike, round, neg, of_bits, to_bits}
use lib.Ieee.Back.{round_whole}
use lib.Ieee.Bits.{of_bits-to_bits}
use lib.Ieee.Fits.{round-fits}
use lib.Ieee.Exact.{HasValue}
use Rattle.floats.specs.Flush.{flush}
use Rattle.rounding.specs.Rounding.{rounding_of, rounded}
use Rattle.correct_rounding.specs.Rounded.{ratio, CorrectlyRounded}
use Rattle.rounding.specs.declared.rounding.Rounding.{Rounding}
use Rattle.rounding.specs.declared.rounding.Rounding.TheVariants.{Nearest}
use Rattle.correct_rounding.proofs.Rounded.{rounded_correct}
use Rattle.floats.proofs.Flushing.{flush_off}
use Rattle.packing.proofs.Written.{rounded_nearest}
use Rattle.operators.specs.Operators.{sum_size, sum_sign, sum, difference, product, quotient}
use Rattle.operators.proofs.Sums.{sum_at}
use Rattle.operators.proofs.Values.{product_at, quotient_at}
use Rattle.directed.proofs.Values.{applied_value, number_applied}
use Rattle.directed.proofs.Control.{kept}
use Rattle.nans.specs.Nan.{resized}
use Rattle.nans.proofs.Choosing.{valued_number}
use Rattle.widths.specs.Convert.{narrowed, narrow, narrow_number}
use Rattle.integers.specs.Integer.{integer_value, from_integer}
use Rattle.correct_rounding.specs.Operations.{negative, magnitude, Correct}
use Rattle.widths.proofs.Narrow.{narrowed_value}
use Rattle.integers.proofs.Laws.{from_integer_exact}
use Rattle.integers.proofs.Sight.{to_integer-Names}
use Rattle.integers.proofs.Whole.{widened_value}

-- what equals `rounded` of a fraction
correct : (mode : Rounding) (f : Format) (s : Bool) (num den : ℕ) (v : Float) → 0 < den → v ≡ rounded mode f s num den → CorrectlyRounded mode f s (ratio num den) (to_bits f v)
correct mode f s num den v D e = subst (λ (x : Float). CorrectlyRounded mode f s (ratio num den) (to_bits f x)) (sym e) (rounded_correct mode f s num den D)

-- ---- sums

sums : (mode : Rounding) (f : Format) (x y : Float) (s t : Bool) (a b c : ℕ) → 0 < c → HasValue x s a c → HasValue y t b c
    → CorrectlyRounded mode f (sum_sign mode s a t b) (ratio (sum_size s a t b) c) (to_bits f (sum mode f x y))
sums mode f x y s t a b c C h k = correct mode f (sum_sign mode s a t b) (sum_size s a t b) c (sum mode f x y) C (sum_at mode f x y s t a b c C h k)

negated : (y : Float) (t : Bool) (b c : ℕ) → HasValue y t b c → HasValue (neg y) (not t) b c
unfolding neg
negated nan t b c h = h
negated (inf u) t b c h = h
negated (fin u m e) t b c h = (ap not h.0, h.1)

differences : (mode : Rounding) (f : Format) (x y : Float) (s t : Bool) (a b c : ℕ) → 0 < c → HasValue x s a c → HasValue y t b c
    → CorrectlyRounded mode f (sum_sign mode s a (not t) b) (ratio (sum_size s a (not t) b) c) (to_bits f (difference mode f x y))
unfolding difference
differences mode f x y s t a b c C h k = sums mode f x (neg y) s (not t) a b c C h (negated y t b c k)

-- ---- as it is stored

-- ---- conversions

integer_of : (f : Format) (mode : Rounding) (signed : Bool) (w : ℕ) → integer_value mode f signed w ≡ rounded mode f (negative signed w) (magnitude signed w) 1
integer_of f mode signed w = go (negative signed w)
  where
    go : (t : Bool) → cond t (rounded mode f true (2 ^ 32 - w) 1) (rounded mode f false w 1) ≡ rounded mode f t (cond t (2 ^ 32 - w) w) 1
    go true = refl
    go false = refl

from_integer_lem : (f : Format) (mode : Rounding) (signed : Bool) (w : ℕ) → CorrectlyRounded mode f (negative signed w) (ratio (magnitude signed w) 1) (from_integer f mode signed w)
unfolding from_integer
from_integer_lem f mode signed w = correct mode f (negative signed w) (magnitude signed w) 1 (integer_value mode f signed w) (lit< tt) (integer_of f mode signed w)

nearest_exact : (signed : Bool) (w : ℕ) → w < 2 ^ 32 → HasValue (of_bits binary64 (from_integer binary64 Nearest signed w)) (negative signed w) (magnitude signed w) 1
unfolding from_integer
nearest_exact signed w h =
    subst (λ (v : Float). HasValue v (negative signed w) (magnitude signed w) 1)
    (sym (ap (λ (v : Float). of_bits binary64 (to_bits binary64 v)) (integer_of binary64 Nearest signed w ∙ rounded_nearest binary64 (negative signed w) (magnitude signed w) 1)
    ∙ of_bits-to_bits binary64 (round binary64 (negative signed w) (magnitude signed w) 1) (round-fits binary64 (negative signed w) (magnitude signed w) 1)))
    (round_whole binary64 (negative signed w) (magnitude signed w) (small (negative signed w)))
  where
    small : (t : Bool) → cond t (2 ^ 32 - w) w ≤ 2 ^ 53
    small true = omega arith
    small false = omega arith

to_double_exact : (mode : Rounding) (signed : Bool) (w : ℕ) → w < 2 ^ 32 → HasValue (of_bits binary64 (from_integer binary64 mode signed w)) (negative signed w) (magnitude signed w) 1
to_double_exact mode signed w h = subst (λ (r : ℕ). HasValue (of_bits binary64 r) (negative signed w) (magnitude signed w) 1) (from_integer_exact mode signed w h) (nearest_exact signed w h)

narrowing : (mode : Rounding) (f : Format) (x : Float) (s : Bool) (a c : ℕ) → 0 < c → HasValue x s a c → CorrectlyRounded mode f s (ratio a c) (to_bits f (narrowed mode f x))
narrowing mode f x s a c C h = correct mode f s a c (narrowed mode f x) C (narrowed_value mode f x s a c C h)

double_to_single : (control b : ℕ) (s : Bool) (a c : ℕ) → 0 < c → control / 2 ^ 24 % 2 ≡ 0 → HasValue (of_bits binary64 b) s a c
    → CorrectlyRounded (rounding_of control) binary32 s (ratio a c) (narrow control b)
unfolding narrow narrow_number
double_to_single control b s a c C z h =
    let mode = rounding_of control in
    let word = to_bits binary32 (narrowed mode binary32 (of_bits binary64 b)) in
    subst (CorrectlyRounded mode binary32 s (ratio a c))
    (flush_off binary32 control word z
    ∙ sym (ap (λ (t : Bool). cond t (resized binary64 binary32 control b) (flush binary32 control word)) (valued_number binary64 b s a c h)))
    (narrowing mode binary32 (of_bits binary64 b) s a c C h)

pub numbers_correct : Correct
numbers_correct =
    record {
      sums = sums;
      differences = differences;
      products = λ mode f x y s t a b c d C D h k. correct mode f (unlike s t) (a * b) (c * d) (product mode f x y) (mul-pos C D) (product_at mode f x y s t a c b d C D h k);
      quotients = λ mode f x y s t a b c d C D B h k. correct mode f (unlike s t) (a * d) (b * c) (quotient mode f x y) (mul-pos B C) (quotient_at mode f x y s t a c b d C D B h k);
      value_of_word = applied_value;
      numbers_untouched = number_applied;
      stored_as_it_is = kept;
      from_integers = from_integer_lem;
      to_double_exact = to_double_exact;
      narrowing = narrowing;
      double_to_single = double_to_single;
      single_to_double = widened_value;
      to_integers = to_integer-Names;
    }
