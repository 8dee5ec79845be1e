use Prim.Native.Nat.{◌≤◌, ◌-◌}
use Rattle.test_watched.proofs.machines.lists.Given as goal

abbrev pub invariant-loop-i : goal.invariant-loop-i
invariant-loop-i l = l.i ≤ 200000

abbrev pub decreases-loop-i : goal.decreases-loop-i
decreases-loop-i l = 200000 - l.i
