use Rattle.phases.specs.Round.{sum, most, turns}
use mathlib.Core.Path.{◌≡◌}
use Prim.Native.Nat.{◌+◌, ◌≤◌, ◌-◌}
use lib.ListN.{length}
use Rattle.phases.proofs.phase.round.Given as goal

abbrev pub invariant-loop-turn : goal.invariant-loop-turn
invariant-loop-turn l = (l.turn ≤ length l.initial.grants) × (length l.grants ≡ length l.initial.grants) × (sum l.grants + l.rest ≡ sum l.initial.grants + l.words) × (l.grants ≡ turns (sum l.initial.grants + l.words) (most l.limits l.left) l.turn l.initial.grants)

abbrev pub decreases-loop-turn : goal.decreases-loop-turn
decreases-loop-turn l = length l.initial.grants - l.turn
