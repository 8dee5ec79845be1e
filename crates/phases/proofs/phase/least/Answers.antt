use Rattle.phases.proofs.Loops.{least_one}
use Rattle.phases.specs.Phase.{least_room}
use Rattle.phases.specs.Round.{most}
use mathlib.Core.Path.{refl}
use native.Mathlib.Omega.{arith}
use Rattle.phases.proofs.phase.least.Goals as goal

pub loop-i-init : goal.loop-i-init
unfolding least_room
loop-i-init c = (omega arith, refl)

pub loop-i-preserved : goal.loop-i-preserved
loop-i-preserved c = (omega arith, least_one (most c.args.limits.now c.args.left.now) c.args.grants.now c.loop-i.i c.loop-i.words c.narrow-words.result c.smaller.result c.loop-i.invariant.1 c.smaller.ensures c.narrow-words.ensures)
