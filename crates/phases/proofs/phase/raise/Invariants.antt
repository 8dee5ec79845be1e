use Rattle.phases.specs.Phase.{raised}
use Rattle.phases.specs.Round.{most}
use mathlib.Core.Path.{◌≡◌}
use Prim.Native.Nat.{◌≤◌, ◌-◌}
use lib.ListN.{length}
use Rattle.phases.proofs.phase.raise.Given as goal

abbrev pub invariant-loop-i : goal.invariant-loop-i
invariant-loop-i l = (l.i ≤ length l.initial.grants) × (length l.grants ≡ length l.initial.grants) × (l.grants ≡ raised l.words (most l.limits l.left) l.i l.initial.grants)

abbrev pub decreases-loop-i : goal.decreases-loop-i
decreases-loop-i l = length l.initial.grants - l.i
