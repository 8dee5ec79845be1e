use lib.Ieee.{binary64}
use Rattle.floats.proofs.Patterns.{zero_over_zero}
use Rattle.floats.proofs.precision.U64Precision.nan.Goals as goal

pub returns : goal.returns
returns c = zero_over_zero binary64
