use Rattle.place_values.specs.Place.{first_from}
use Rattle.place_values.specs.Seen.{changed_in, next_change_in}
use mathlib.Core.Path.{◌≡◌}
use Prim.Native.Nat.{◌-◌, ◌≤◌}
use Rattle.place_values.proofs.place.next_change.Given as goal

abbrev pub invariant-loop-p : goal.invariant-loop-p
invariant-loop-p l = (l.from ≤ l.p) × (first_from (changed_in l.before l.after) (l.end - l.p) l.p ≡ next_change_in l.before l.after l.from l.end)

abbrev pub decreases-loop-p : goal.decreases-loop-p
decreases-loop-p l = l.end - l.p
