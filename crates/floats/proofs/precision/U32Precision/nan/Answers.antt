use lib.Ieee.{binary32}
use Rattle.floats.proofs.Patterns.{zero_over_zero}
use Rattle.floats.proofs.precision.U32Precision.nan.Goals as goal

pub returns : goal.returns
returns c = zero_over_zero binary32
