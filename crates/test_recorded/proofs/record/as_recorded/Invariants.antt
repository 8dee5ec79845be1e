use Prim.Native.Nat.{◌≤◌, ◌-◌}
use lib.ListN.{length}
use Rattle.test_recorded.proofs.record.as_recorded.Given as goal

abbrev pub invariant-loop-i : goal.invariant-loop-i
invariant-loop-i l = l.i ≤ length l.got

abbrev pub decreases-loop-i : goal.decreases-loop-i
decreases-loop-i l = length l.got - l.i
