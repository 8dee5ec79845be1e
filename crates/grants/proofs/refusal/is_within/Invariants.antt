use Rattle.grants.specs.Refusal.{within}
use mathlib.Core.Path.{◌≡◌}
use Prim.Native.Nat.{◌≤◌, ◌-◌}
use lib.ListN.{length, drop}
use Rattle.grants.proofs.refusal.is_within.Given as goal

abbrev pub invariant-loop-i : goal.invariant-loop-i
invariant-loop-i l = (l.i ≤ length l.shares) × (within (drop l.i l.shares) (drop l.i l.limits) ≡ within l.shares l.limits)

abbrev pub decreases-loop-i : goal.decreases-loop-i
decreases-loop-i l = length l.shares - l.i
