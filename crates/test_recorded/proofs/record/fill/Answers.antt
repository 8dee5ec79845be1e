use native.Mathlib.Omega.{arith}
use lib.ListN.{length-set}
use Rattle.test_recorded.proofs.record.fill.Goals as goal

pub loop-i-preserved : goal.loop-i-preserved
loop-i-preserved c = (simp length-set (omega arith), simp length-set c.loop-i.invariant.1)
