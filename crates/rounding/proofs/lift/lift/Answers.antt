use Rattle.rounding.proofs.Lifting.{zeros_enough, lifted}
use native.Mathlib.Omega.{arith}
use Rattle.rounding.proofs.lift.lift.Goals as goal

pub overflow_sub-result : goal.overflow_sub-result
overflow_sub-result c = omega (arith, zeros_enough c.args.t c.requires.0 c.requires.1)

pub returns : goal.returns
returns c = lifted c.args.t c.requires.0 c.requires.1
