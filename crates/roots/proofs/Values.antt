-- Values that the definition is held against, each computed. Assumes nothing.
use mathlib.Core.Path.{◌≡◌, refl}
use lib.Ieee.{binary32, binary64, size, of_bits, to_bits, nan_bits, odd}
use Rattle.floats.specs.Flush.{flush}
use Rattle.rounding.specs.Rounding.{rounding_of}
use Rattle.roots.specs.Root.{isqrt, root_of, sqrt_of, root_number, square_root, exact_root, sqrt_exceptions, root_exceptions}

-- the roots of 2 and of the subnormal 3, and of 2 upwards, downwards and towards zero
pub values : (square_root binary32 0 0x4000_0000 ≡ 0x3FB5_04F3)
    × (square_root binary64 0 0x4000_0000_0000_0000 ≡ 0x3FF6_A09E_667F_3BCD)
    × (square_root binary64 0 3 ≡ 0x1E6B_B67A_E858_4CAA)
    × (square_root binary32 0x40_0000 0x4000_0000 ≡ 0x3FB5_04F4)
    × (square_root binary32 0x80_0000 0x4000_0000 ≡ 0x3FB5_04F3)
    × (square_root binary64 0xC0_0000 0x4000_0000_0000_0000 ≡ 0x3FF6_A09E_667F_3BCC)
unfolding square_root root_number rounding_of sqrt_of root_of isqrt flush of_bits to_bits nan_bits odd
values = (refl, refl, refl, refl, refl, refl)

-- what the roots of 2, 4, -1, -infinity, -0, a signalling NaN and a quiet one raise
pub raised : (root_exceptions binary32 0x4000_0000 ≡ 16)
    × (root_exceptions binary64 0x4010_0000_0000_0000 ≡ 0)
    × (root_exceptions binary32 0xBF80_0000 ≡ 1)
    × (root_exceptions binary64 0xFFF0_0000_0000_0000 ≡ 1)
    × (root_exceptions binary32 0x8000_0000 ≡ 0)
    × (root_exceptions binary32 0xFF80_0001 ≡ 1)
    × (root_exceptions binary32 0xFFC0_0000 ≡ 0)
unfolding root_exceptions sqrt_exceptions exact_root isqrt size of_bits nan_bits
raised = (refl, refl, refl, refl, refl, refl, refl)
