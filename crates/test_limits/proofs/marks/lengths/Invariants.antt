use Prim.Native.Nat.{◌≤◌, ◌-◌}
use Rattle.test_limits.proofs.marks.lengths.Given as goal

abbrev pub invariant-loop-marks : goal.invariant-loop-marks
invariant-loop-marks l = l.marks ≤ 18

abbrev pub decreases-loop-marks : goal.decreases-loop-marks
decreases-loop-marks l = 18 - l.marks
