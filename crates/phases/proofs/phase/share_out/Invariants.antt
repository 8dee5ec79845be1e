use Rattle.phases.specs.Share.{shared}
use mathlib.Core.Path.{◌≡◌}
use Prim.Native.Nat.{◌≤◌, ◌-◌}
use lib.ListN.{length, take}
use Rattle.phases.proofs.phase.share_out.Given as goal

abbrev pub invariant-loop-i : goal.invariant-loop-i
invariant-loop-i l = (l.i ≤ length l.initial.grants) × (length l.grants ≡ length l.initial.grants) × (take l.i l.grants ≡ take l.i (shared l.shares l.left))

abbrev pub decreases-loop-i : goal.decreases-loop-i
decreases-loop-i l = length l.initial.grants - l.i
