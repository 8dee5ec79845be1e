use Prim.Native.Nat.{◌≤◌, ◌-◌}
use Rattle.test_watched.proofs.exact.case.Given as goal

abbrev pub invariant-loop-p : goal.invariant-loop-p
invariant-loop-p g l = l.p ≤ 64

abbrev pub decreases-loop-p : goal.decreases-loop-p
decreases-loop-p g l = 64 - l.p
