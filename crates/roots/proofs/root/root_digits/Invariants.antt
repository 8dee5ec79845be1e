use Rattle.roots.proofs.RootDigits.{After}
use Prim.Native.Nat.{◌-◌, ◌≤◌}
use Rattle.roots.proofs.root.root_digits.Given as goal

abbrev pub invariant-loop-i : goal.invariant-loop-i
invariant-loop-i l = (l.i ≤ l.steps) × After l.x l.i l.root l.rest l.left

abbrev pub decreases-loop-i : goal.decreases-loop-i
decreases-loop-i l = l.steps - l.i
