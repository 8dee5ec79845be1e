use mathlib.Core.Path.{◌≡◌}
use Prim.Native.Nat.{◌≤◌, ◌-◌}
use lib.ListN.{length, take, replicate}
use Rattle.grants.proofs.refusal.clear.Given as goal

abbrev pub invariant-loop-i : goal.invariant-loop-i
invariant-loop-i l = (l.i ≤ length l.initial.grants) × (length l.grants ≡ length l.initial.grants) × (take l.i l.grants ≡ take l.i (replicate (length l.initial.grants) 0))

abbrev pub decreases-loop-i : goal.decreases-loop-i
decreases-loop-i l = length l.initial.grants - l.i
