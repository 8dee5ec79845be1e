-- Conversions between the widths. Assumes nothing.
use Rattle.std.specs.Prelude.{ℕ, ◌*◌, ◌≡◌, Bool, true, false, cond, Float}
use Rattle.std.specs.Float.{nan, inf, fin, Format, binary32, binary64}
use Rattle.std.specs.Float.Ieee.{up, down, of_bits, to_bits, nan_bits}
use Rattle.floats.specs.Flush.{flush}
use Rattle.nans.specs.Nan.{resized}
use Rattle.exceptions.specs.Exceptions.{fraction_exceptions, nan_exceptions, flushed_exceptions}
use Rattle.rounding.specs.Rounding.{rounding_of, rounded, exact, over, tiny}
use Rattle.rounding.specs.declared.rounding.Rounding.{Rounding}

-- a value of any format at the format f, rounded once
unfoldable pub narrowed : Rounding → Format → Float → Float
narrowed mode f nan = nan
narrowed mode f (inf s) = inf s
narrowed mode f (fin s m e) = rounded mode f s (m * up e) (down e)

-- what a test says of a finite value, by its sign and its size as a fraction, and d of any other
unfoldable pub on_finite : Bool → (Bool → ℕ → ℕ → Bool) → Float → Bool
on_finite d g nan = d
on_finite d g (inf s) = d
on_finite d g (fin s m e) = g s (m * up e) (down e)

-- a double that is no NaN as a single's word: rounded by the mode, then flushed as a single
unfoldable pub narrow_number : ℕ → ℕ → ℕ
narrow_number control b = flush binary32 control (to_bits binary32 (narrowed (rounding_of control) binary32 (of_bits binary64 b)))

-- a single that is no NaN as the bits of the double of the same value
unfoldable pub widen_number : ℕ → ℕ
widen_number b = to_bits binary64 (of_bits binary32 b)

-- any word
unfoldable pub narrow : ℕ → ℕ → ℕ
unfolding narrow_number
narrow control b = cond (nan_bits binary64 b) (resized binary64 binary32 control b) (narrow_number control b)

unfoldable pub widen : ℕ → ℕ → ℕ
unfolding widen_number
widen control b = cond (nan_bits binary32 b) (resized binary32 binary64 control b) (widen_number b)

-- ---- what they raise

-- a value of any format at the format f: what is not finite is not rounded
unfoldable pub narrowed_exceptions : Rounding → Format → Float → ℕ
unfolding fraction_exceptions
narrowed_exceptions mode f nan = 0
narrowed_exceptions mode f (inf s) = 0
narrowed_exceptions mode f (fin s m e) = fraction_exceptions mode f s (m * up e) (down e)

unfoldable pub narrow_exceptions : ℕ → ℕ → ℕ
unfolding narrowed narrowed_exceptions
narrow_exceptions control b =
    let mode = rounding_of control in
    let v = of_bits binary64 b in
    cond (nan_bits binary64 b) (nan_exceptions binary64 b b) (flushed_exceptions binary32 control (to_bits binary32 (narrowed mode binary32 v)) (narrowed_exceptions mode binary32 v))

-- a double has room for every single
abbrev pub widen_exceptions : ℕ → ℕ
widen_exceptions b = nan_exceptions binary32 b b

-- what the code's narrowing gives
pub record IsNarrowed (mode : Rounding) (f : Format) (v : Float) (bits : ℕ) (x o t : Bool) : Type 0 where
  pub bits_are : bits ≡ to_bits f (narrowed mode f v)
  pub exact_is : x ≡ on_finite true (λ s. exact f) v
  pub over_is : o ≡ on_finite false (over mode f) v
  pub tiny_is : t ≡ on_finite false (λ s. tiny f) v
