use Rattle.std.proofs.Common.{◌∙◌, ap}
use lib.Ieee.{binary64, of_bits}
use Rattle.integers.proofs.Whole.{widened_value}
use Rattle.to_integers.proofs.to.U32ToInteger.as_double.Goals as goal

pub returns : goal.returns
returns c = ap (of_bits binary64) c.widen.ensures.0 ∙ widened_value 0 c.args.self c.ranges.self.fits
