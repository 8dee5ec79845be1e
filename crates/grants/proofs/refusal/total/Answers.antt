use Rattle.grants.proofs.Loops.{sum_on, sum_end}
use native.Mathlib.Omega.{arith}
use Rattle.grants.proofs.refusal.total.Goals as goal

pub loop-i-preserved : goal.loop-i-preserved
loop-i-preserved c = (omega arith, omega (arith, sum_on c.args.numbers.now c.loop-i.i (omega arith), c.wide-all.ensures), omega (arith, c.wide-all.ensures, c.shared_slice_known-in-loop-i-1.given c.loop-i.i))

pub returns : goal.returns
returns c = omega (arith, sum_end c.args.numbers.now c.loop-i.i (omega arith))
