-- What a conversion to an integer names. Assumes nothing.
use mathlib.Core.Path.{◌≡◌}
use mathlib.Core.Bool.{Bool}
use Prim.Native.Nat.{ℕ, ◌<◌}
use lib.Ieee.{Format, of_bits}
use lib.Ieee.Exact.{HasValue}
use Rattle.rounding.specs.Rounding.{cut_to, Names}
use Rattle.integers.specs.Integer.{clamped, to_integer}
use Rattle.rounding.specs.declared.rounding.Rounding.{Rounding}
use Rattle.integers.proofs.Whole.{integer_value}
use Rattle.rounding.proofs.Sight.{cut_Names}

-- a conversion to an integer is the whole number that the mode names, brought into the range
pub to_integer-Names : (f : Format) (mode : Rounding) (signed : Bool) (b : ℕ) (s : Bool) (a c : ℕ) → 0 < c → HasValue (of_bits f b) s a c
    → (to_integer f mode signed b ≡ clamped signed s (cut_to mode s a c)) × Names mode s a c (cut_to mode s a c)
unfolding to_integer
to_integer-Names f mode signed b s a c C h = (integer_value mode signed (of_bits f b) s a c C h, cut_Names a c C mode s)
