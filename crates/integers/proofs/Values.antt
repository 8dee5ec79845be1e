-- Values that the definitions are held against, each computed. Assumes nothing.
use mathlib.Core.Path.{◌≡◌, refl}
use mathlib.Core.Bool.{true, false}
use lib.Ieee.{binary32, binary64, size, of_bits, to_bits, odd}
use Rattle.floats.specs.Flush.{flush}
use Rattle.rounding.specs.Rounding.{rounding_of, rounded, exact}
use Rattle.rounding.specs.declared.rounding.Rounding.TheVariants.{Nearest, Up, Down, Zero}
use Rattle.integers.specs.Integer.{from_integer, integer_of, to_integer, from_integer_exceptions, integer_exceptions, to_integer_exceptions}

-- To signed in mode 00: 2.5, -0.5, -1.5, of doubles and of singles. -0.5 in mode 10, signed and unsigned.
pub values : (to_integer binary64 (rounding_of 0) true 0x4004_0000_0000_0000 ≡ 2)
    × (to_integer binary64 (rounding_of 0) true 0xBFE0_0000_0000_0000 ≡ 0)
    × (to_integer binary64 (rounding_of 0) true 0xBFF8_0000_0000_0000 ≡ 0xFFFF_FFFE)
    × (to_integer binary32 (rounding_of 0) true 0x4020_0000 ≡ 2)
    × (to_integer binary32 (rounding_of 0) true 0xBF00_0000 ≡ 0)
    × (to_integer binary32 (rounding_of 0) true 0xBFC0_0000 ≡ 0xFFFF_FFFE)
    × (to_integer binary64 (rounding_of 0x80_0000) true 0xBFE0_0000_0000_0000 ≡ 0xFFFF_FFFF)
    × (to_integer binary64 (rounding_of 0x80_0000) false 0xBFE0_0000_0000_0000 ≡ 0)
unfolding to_integer integer_of rounding_of rounded of_bits to_bits
values = (refl, refl, refl, refl, refl, refl, refl, refl)

-- the largest unsigned integer, to nearest and towards zero, and -(2 ^ 24 + 1) upwards and downwards
pub integer_values : (from_integer binary32 Nearest false 0xFFFF_FFFF ≡ 0x4F80_0000)
    × (from_integer binary32 Zero false 0xFFFF_FFFF ≡ 0x4F7F_FFFF)
    × (from_integer binary32 Up true 0xFEFF_FFFF ≡ 0xCB80_0000)
    × (from_integer binary32 Down true 0xFEFF_FFFF ≡ 0xCB80_0001)
unfolding from_integer rounded flush of_bits to_bits odd
integer_values = (refl, refl, refl, refl)

-- What is raised: by 2 ^ 24 + 1 as a single and as a double, by 2.5 and 2, and by -0.5, unsigned, in modes 00 and 10, by 2 ^ 32 and a quiet NaN.
pub raised : (from_integer_exceptions binary32 true 0x100_0001 ≡ 16)
    × (from_integer_exceptions binary64 true 0x100_0001 ≡ 0)
    × (to_integer_exceptions binary32 Nearest true 0x4020_0000 ≡ 16)
    × (to_integer_exceptions binary32 Nearest true 0x4000_0000 ≡ 0)
    × (to_integer_exceptions binary64 Nearest false 0xBFE0_0000_0000_0000 ≡ 16)
    × (to_integer_exceptions binary64 Down false 0xBFE0_0000_0000_0000 ≡ 1)
    × (to_integer_exceptions binary64 Zero false 0x41F0_0000_0000_0000 ≡ 1)
    × (to_integer_exceptions binary32 Zero true 0x7FC0_0000 ≡ 1)
unfolding from_integer_exceptions to_integer_exceptions integer_exceptions exact size of_bits
raised = (refl, refl, refl, refl, refl, refl, refl, refl)
