use Rattle.place_values.specs.Place.{word_at}
use Rattle.std.proofs.lemmas.Grind.{common_steps}
use native.Mathlib.Omega.{arith}
use Rattle.place_values.proofs.place.word.Goals as goal

pub returns : goal.returns
unfolding word_at
returns c = grind (arith, common_steps)
