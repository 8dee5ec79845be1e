-- Values that the definitions are held against, each computed. Assumes nothing.
use mathlib.Core.Path.{◌≡◌, refl}
use lib.Ieee.{binary32, binary64, of_bits, eq, lt, is_nan}
use Rattle.comparisons.specs.Compare.{compare_flags}

-- +0 against -0
pub values : (compare_flags binary32 0 0x8000_0000 ≡ 0b0110) × (compare_flags binary64 0 0x8000_0000_0000_0000 ≡ 0b0110)
unfolding compare_flags of_bits eq lt is_nan
values = (refl, refl)
