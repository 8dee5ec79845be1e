use Rattle.phases.specs.Phase.{roomy}
use Rattle.phases.specs.Round.{most}
use mathlib.Core.Path.{◌≡◌}
use Prim.Native.Nat.{◌≤◌, ◌-◌}
use lib.ListN.{length}
use Rattle.phases.proofs.phase.count.Given as goal

abbrev pub invariant-loop-i : goal.invariant-loop-i
invariant-loop-i l = (l.i ≤ length l.grants) × (l.n ≡ roomy (most l.limits l.left) l.i l.grants)

abbrev pub decreases-loop-i : goal.decreases-loop-i
decreases-loop-i l = length l.grants - l.i
