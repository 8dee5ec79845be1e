-- Values that the definitions are held against, each computed. Assumes nothing.
use mathlib.Core.Path.{◌≡◌, refl}
use lib.Ieee.{size, of_bits, to_bits, nan_bits}
use Rattle.floats.specs.Flush.{flush}
use Rattle.rounding.specs.Rounding.{rounding_of, rounded, exact, over, tiny}
use Rattle.exceptions.specs.Exceptions.{fraction_exceptions}
use Rattle.widths.specs.Convert.{narrowed, narrow_number, narrow, narrowed_exceptions, narrow_exceptions, widen_exceptions}

-- narrowing a tie, and what is just above half of the smallest single, without and with FPSCR bit 24
pub values : (narrow 0 0x3FF0_0000_1000_0000 ≡ 0x3F80_0000) × (narrow 0 0x3690_0000_0000_0001 ≡ 1) × (narrow 0x100_0000 0x3690_0000_0000_0001 ≡ 0)
unfolding narrow narrow_number narrowed rounding_of rounded flush of_bits to_bits nan_bits
values = (refl, refl, refl)

-- in modes 01, 10 and 11: -(1 + 2 ^ -52), and what is too large, of either sign
pub directed : (narrow 0x40_0000 0xBFF0_0000_0000_0001 ≡ 0xBF80_0000)
    × (narrow 0x80_0000 0xBFF0_0000_0000_0001 ≡ 0xBF80_0001)
    × (narrow 0xC0_0000 0xBFF0_0000_0000_0001 ≡ 0xBF80_0000)
    × (narrow 0x40_0000 0xC7F0_0000_0000_0000 ≡ 0xFF7F_FFFF)
    × (narrow 0x80_0000 0xC7F0_0000_0000_0000 ≡ 0xFF80_0000)
    × (narrow 0xC0_0000 0x47EF_FFFF_FFFF_FFFF ≡ 0x7F7F_FFFF)
unfolding narrow narrow_number narrowed rounding_of rounded flush of_bits to_bits nan_bits
directed = (refl, refl, refl, refl, refl, refl)

-- What is raised, by 1, what is too large in mode 11, the smallest subnormal single, without and with FPSCR bit 24, half of it, with that bit,
-- what rounds up to the least normal single, with it, a signalling NaN and a quiet one, narrowed and widened.
pub raised : (narrow_exceptions 0 0x3FF0_0000_0000_0000 ≡ 0)
    × (narrow_exceptions 0xC0_0000 0x47F0_0000_0000_0000 ≡ 20)
    × (narrow_exceptions 0 0x36A0_0000_0000_0000 ≡ 0)
    × (narrow_exceptions 0x100_0000 0x36A0_0000_0000_0000 ≡ 8)
    × (narrow_exceptions 0x100_0000 0x3690_0000_0000_0000 ≡ 24)
    × (narrow_exceptions 0x100_0000 0x380F_FFFF_FFFF_FFFF ≡ 24)
    × (narrow_exceptions 0 0x7FF0_0000_0000_0001 ≡ 1)
    × (narrow_exceptions 0 0x7FF8_0000_0000_0000 ≡ 0)
    × (widen_exceptions 0x7F80_0001 ≡ 1)
    × (widen_exceptions 1 ≡ 0)
unfolding narrow_exceptions narrowed_exceptions fraction_exceptions narrowed rounding_of rounded exact over tiny size of_bits to_bits nan_bits
raised = (refl, refl, refl, refl, refl, refl, refl, refl, refl, refl)
