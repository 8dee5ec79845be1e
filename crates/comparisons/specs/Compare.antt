-- A comparison's flags, and what it raises. Assumes nothing.
use Rattle.std.specs.Prelude.{ℕ, Bool, cond, ◌&&◌, ◌||◌, Float}
use Rattle.std.specs.Float.{Format}
use Rattle.std.specs.Float.Ieee.{lt, eq, is_nan, of_bits, nan_bits}
use Rattle.exceptions.specs.Exceptions.{invalid, nan_exceptions}

-- FPSCR 31:28: unordered 0011, equal 0110, less 1000, greater 0010
abbrev pub flags_of : Float → Float → ℕ
flags_of x y = cond (is_nan x || is_nan y) 0b0011 (cond (eq x y) 0b0110 (cond (lt x y) 0b1000 0b0010))

unfoldable pub compare_flags : Format → ℕ → ℕ → ℕ
compare_flags f a b = flags_of (of_bits f a) (of_bits f b)

-- a signalling NaN is invalid; for FCMPE, any NaN
unfoldable pub compare_exceptions : Format → Bool → ℕ → ℕ → ℕ
compare_exceptions f any a b = cond (any && (nan_bits f a || nan_bits f b)) invalid (nan_exceptions f a b)
