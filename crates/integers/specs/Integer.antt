-- Integers' words as floats, and floats as integers' words. Assumes nothing.
use Rattle.std.specs.Prelude.{ℕ, ◌-◌, ◌*◌, ◌%◌, ◌^◌, min, Bool, true, false, ◌&&◌, cond, leb, ltb, eqb, Float}
use Rattle.std.specs.Float.{nan, inf, fin, Format}
use Rattle.std.specs.Float.Ieee.{up, down, of_bits, to_bits}
use Rattle.rounding.specs.Rounding.{rounded, exact, cut_to}
use Rattle.exceptions.specs.Exceptions.{invalid, inexact}
use Rattle.rounding.specs.declared.rounding.Rounding.{Rounding}

-- a word of 32 bits, signed or not, as a value
abbrev pub integer_value : Rounding → Format → Bool → ℕ → Float
integer_value mode f signed w = cond (signed && leb (2 ^ 31) w) (rounded mode f true (2 ^ 32 - w) 1) (rounded mode f false w 1)

-- rounded by the mode: exact as a double
unfoldable pub from_integer : Format → Rounding → Bool → ℕ → ℕ
from_integer f mode signed w = to_bits f (integer_value mode f signed w)

-- the word of the integer of the sign s and the size c, at the nearest end where it is out of range
abbrev pub clamped : Bool → Bool → ℕ → ℕ
clamped true true c = (2 ^ 32 - min c (2 ^ 31)) % 2 ^ 32
clamped true false c = min c (2 ^ 31 - 1)
clamped false true c = 0
clamped false false c = min c (2 ^ 32 - 1)

-- a NaN is 0; else rounded to a whole number by the mode, and clamped
unfoldable pub integer_of : Rounding → Bool → Float → ℕ
integer_of mode signed nan = 0
integer_of mode signed (inf s) = clamped signed s (2 ^ 32)
integer_of mode signed (fin s m e) = clamped signed s (cut_to mode s (m * up e) (down e))

unfoldable pub to_integer : Format → Rounding → Bool → ℕ → ℕ
to_integer f mode signed b = integer_of mode signed (of_bits f b)

-- ---- what they raise

-- an integer is neither too large for a float nor tiny: inexact where it is no value of the format
unfoldable pub from_integer_exceptions : Format → Bool → ℕ → ℕ
from_integer_exceptions f signed w = cond (exact f (cond (signed && leb (2 ^ 31) w) (2 ^ 32 - w) w) 1) 0 inexact

-- the integer of the sign s and the size c is outside the range
abbrev pub outside : Bool → Bool → ℕ → Bool
outside true true c = ltb (2 ^ 31) c
outside true false c = leb (2 ^ 31) c
outside false true c = ltb 0 c
outside false false c = leb (2 ^ 32) c

-- there it is invalid; else inexact, unless nothing was dropped to make it whole
abbrev pub clamped_exceptions : Bool → Bool → ℕ → Bool → ℕ
clamped_exceptions signed s c x = cond (outside signed s c) invalid (cond x 0 inexact)

-- what has no integer, for it is a NaN, infinite or outside the range once it is rounded, is invalid
unfoldable pub integer_exceptions : Rounding → Bool → Float → ℕ
integer_exceptions mode signed nan = invalid
integer_exceptions mode signed (inf s) = invalid
integer_exceptions mode signed (fin s m e) = clamped_exceptions signed s (cut_to mode s (m * up e) (down e)) (eqb (m * up e % down e) 0)

unfoldable pub to_integer_exceptions : Format → Rounding → Bool → ℕ → ℕ
unfolding integer_exceptions
to_integer_exceptions f mode signed b = integer_exceptions mode signed (of_bits f b)
