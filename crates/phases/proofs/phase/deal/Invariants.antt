use Prim.Native.Nat.{◌+◌, ◌-◌, ◌≤◌}
use Rattle.phases.specs.Phase.{roomy}
use Rattle.phases.specs.Round.{sum, most, rounds}
use mathlib.Core.Path.{◌≡◌}
use lib.ListN.{length}
use Rattle.phases.proofs.phase.deal.Given as goal

abbrev pub invariant-loop-n : goal.invariant-loop-n
invariant-loop-n l = (length l.grants ≡ length l.initial.grants) × (l.n ≡ roomy (most l.limits l.left) (length l.grants) l.grants) × (sum l.grants + l.rest ≡ sum l.initial.grants + l.words) × (rounds (sum l.initial.grants + l.words) (most l.limits l.left) (sum l.initial.grants + l.words) l.grants ≡ rounds (sum l.initial.grants + l.words) (most l.limits l.left) (sum l.initial.grants + l.words) l.initial.grants) × (l.rest ≤ l.words)

abbrev pub decreases-loop-n : goal.decreases-loop-n
decreases-loop-n l = l.n + (1 - (l.n - l.rest))
