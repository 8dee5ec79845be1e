-- What the arithmetic and the conversions come to in IEEE 754's terms: each result's word is the exact result, correctly rounded. Assumes nothing.
use Rattle.std.specs.Prelude.{ℕ, ◌-◌, ◌*◌, ◌/◌, ◌%◌, ◌^◌, ◌<◌, ◌≡◌, Bool, not, ◌&&◌, cond, leb, Float}
use Rattle.std.specs.Float.{Format, binary32, binary64}
use Rattle.std.specs.Float.Ieee.{top, unlike, of_bits, to_bits}
use Rattle.std.specs.Float.Ieee.Exact.{HasValue}
use Rattle.rounding.specs.Rounding.{rounding_of, cut_to, Names}
use Rattle.correct_rounding.specs.Rounded.{ratio, CorrectlyRounded}
use Rattle.rounding.specs.declared.rounding.Rounding.{Rounding}
use Rattle.operators.specs.Operators.{sum_size, sum_sign, sum, difference, product, quotient}
use Rattle.directed.specs.Directed.{apply_by, applied_by, arithmetic_by}
use Rattle.nans.specs.Nan.{default_nan}
use Rattle.widths.specs.Convert.{narrowed, narrow, widen}
use Rattle.integers.specs.Integer.{from_integer, clamped, to_integer}
use Rattle.numbers.specs.declared.arithmetic.Arithmetic.{Arithmetic}

-- the integer that a word is, signed or not
abbrev pub negative : Bool → ℕ → Bool
negative signed w = signed && leb (2 ^ 31) w

abbrev pub magnitude : Bool → ℕ → ℕ
magnitude signed w = cond (negative signed w) (2 ^ 32 - w) w

-- x is ±a / c and y is ±b / d
pub record Correct : Type 0 where
  pub sums : (mode : Rounding) (f : Format) (x y : Float) (s t : Bool) (a b c : ℕ) → 0 < c → HasValue x s a c → HasValue y t b c
      → CorrectlyRounded mode f (sum_sign mode s a t b) (ratio (sum_size s a t b) c) (to_bits f (sum mode f x y))
  pub differences : (mode : Rounding) (f : Format) (x y : Float) (s t : Bool) (a b c : ℕ) → 0 < c → HasValue x s a c → HasValue y t b c
      → CorrectlyRounded mode f (sum_sign mode s a (not t) b) (ratio (sum_size s a (not t) b) c) (to_bits f (difference mode f x y))
  pub products : (mode : Rounding) (f : Format) (x y : Float) (s t : Bool) (a b c d : ℕ) → 0 < c → 0 < d → HasValue x s a c → HasValue y t b d
      → CorrectlyRounded mode f (unlike s t) (ratio (a * b) (c * d)) (to_bits f (product mode f x y))
  pub quotients : (mode : Rounding) (f : Format) (x y : Float) (s t : Bool) (a b c d : ℕ) → 0 < c → 0 < d → 0 < b → HasValue x s a c → HasValue y t b d
      → CorrectlyRounded mode f (unlike s t) (ratio (a * d) (b * c)) (to_bits f (quotient mode f x y))
  -- a result's value is that of the operators on its operands' values, and a result that is no NaN is that value's word, whatever bit 25
  pub value_of_word : (f : Format) (control : ℕ) (kind : Arithmetic) (n m d : ℕ) → n < 2 * top f → m < 2 * top f → d < 2 * top f
      → of_bits f (applied_by f control kind n m d) ≡ apply_by (rounding_of control) f kind (of_bits f n) (of_bits f m) (of_bits f d)
  pub numbers_untouched : (f : Format) (control : ℕ) (kind : Arithmetic) (n m d : ℕ) → n < 2 * top f → m < 2 * top f → d < 2 * top f
      → (to_bits f (apply_by (rounding_of control) f kind (of_bits f n) (of_bits f m) (of_bits f d)) ≡ default_nan f → ⊥)
      → to_bits f (apply_by (rounding_of control) f kind (of_bits f n) (of_bits f m) (of_bits f d)) ≡ applied_by f control kind n m d
  -- and with FZ clear it is what is stored
  pub stored_as_it_is : (f : Format) (control : ℕ) (kind : Arithmetic) (n m d : ℕ) → control / 2 ^ 24 % 2 ≡ 0
      → arithmetic_by f control kind n m d ≡ applied_by f control kind n m d
  -- an integer to either format, and to a double exactly
  pub from_integers : (f : Format) (mode : Rounding) (signed : Bool) (w : ℕ) → CorrectlyRounded mode f (negative signed w) (ratio (magnitude signed w) 1) (from_integer f mode signed w)
  pub to_double_exact : (mode : Rounding) (signed : Bool) (w : ℕ) → w < 2 ^ 32 → HasValue (of_bits binary64 (from_integer binary64 mode signed w)) (negative signed w) (magnitude signed w) 1
  -- a value to a format in any mode, and a double to a single with FZ clear
  pub narrowing : (mode : Rounding) (f : Format) (x : Float) (s : Bool) (a c : ℕ) → 0 < c → HasValue x s a c
      → CorrectlyRounded mode f s (ratio a c) (to_bits f (narrowed mode f x))
  pub double_to_single : (control b : ℕ) (s : Bool) (a c : ℕ) → 0 < c → control / 2 ^ 24 % 2 ≡ 0 → HasValue (of_bits binary64 b) s a c
      → CorrectlyRounded (rounding_of control) binary32 s (ratio a c) (narrow control b)
  -- a single to a double is the same value
  pub single_to_double : (control b : ℕ) → b < 2 ^ 32 → of_bits binary64 (widen control b) ≡ of_bits binary32 b
  -- to an integer: the whole number that the mode names, brought into the range
  pub to_integers : (f : Format) (mode : Rounding) (signed : Bool) (b : ℕ) (s : Bool) (a c : ℕ) → 0 < c → HasValue (of_bits f b) s a c
      → (to_integer f mode signed b ≡ clamped signed s (cut_to mode s a c)) × Names mode s a c (cut_to mode s a c)
