-- Every number that the unit works out is correctly rounded, in the sense of `CorrectlyRounded` (crate correct_rounding).
use Rattle.std.specs.Prelude.{ℕ, ◌<◌, Bool}
use Rattle.std.specs.Float.{Format}
use Rattle.std.specs.Float.Ieee.{to_bits}
use Rattle.rounding.specs.Rounding.{rounded}
use Rattle.correct_rounding.specs.Rounded.{ratio, CorrectlyRounded}
use Rattle.rounding.specs.declared.rounding.Rounding.{Rounding}
use Rattle.correct_rounding.specs.Operations as N
use Rattle.correct_rounding.specs.Roots as R

pub record Correct : Type 0 where
  -- rounding itself, in every mode
  pub rounding : (mode : Rounding) (f : Format) (s : Bool) (num den : ℕ) → 0 < den → CorrectlyRounded mode f s (ratio num den) (to_bits f (rounded mode f s num den))
  -- sums, differences, products, quotients, conversions
  pub numbers : N.Correct
  -- square roots
  pub roots : R.Correct
