use Rattle.place_values.specs.Place.{marked_at}
use Rattle.std.proofs.lemmas.Grind.{common_steps}
use native.Mathlib.Omega.{arith}
use Rattle.place_values.proofs.place.marked.Goals as goal

pub returns-in-Some : goal.returns-in-Some
unfolding marked_at
returns-in-Some c = grind (arith, common_steps)

pub returns-in-None : goal.returns-in-None
unfolding marked_at
returns-in-None c = grind (arith, common_steps)
