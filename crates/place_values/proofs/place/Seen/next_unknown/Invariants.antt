use Rattle.place_values.specs.Place.{first_from}
use Rattle.place_values.specs.Seen.{known_in, next_unknown_in}
use mathlib.Core.Bool.{not}
use mathlib.Core.Path.{◌≡◌}
use Prim.Native.Nat.{◌-◌, ◌≤◌}
use Rattle.place_values.proofs.place.Seen.next_unknown.Given as goal

abbrev pub invariant-loop-p : goal.invariant-loop-p
invariant-loop-p l = (l.from ≤ l.p) × (first_from (λ x. not (known_in l.fn.self x)) (l.end - l.p) l.p ≡ next_unknown_in l.fn.self l.from l.end)

abbrev pub decreases-loop-p : goal.decreases-loop-p
decreases-loop-p l = l.end - l.p
