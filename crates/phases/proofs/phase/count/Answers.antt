use Rattle.phases.proofs.Loops.{extra_few, roomy_few, roomy_one}
use Rattle.phases.specs.Phase.{roomy}
use Rattle.phases.specs.Round.{most}
use mathlib.Core.Path.{refl}
use lib.ListN.{get_or}
use native.Mathlib.Omega.{arith}
use Rattle.phases.proofs.phase.count.Goals as goal

pub loop-i-init : goal.loop-i-init
unfolding roomy
loop-i-init c = (omega arith, refl)

pub overflow_add-n : goal.overflow_add-n
overflow_add-n c = record { fits = omega (arith, c.portion-n.ensures, extra_few 1 (get_or c.args.grants.now c.loop-i.i 0) c.smaller.result, roomy_few (most c.args.limits.now c.args.left.now) c.loop-i.i c.args.grants.now, c.requires.few) }

pub loop-i-preserved : goal.loop-i-preserved
loop-i-preserved c = (omega arith, roomy_one (most c.args.limits.now c.args.left.now) c.args.grants.now c.loop-i.i c.loop-i.n c.portion-n.result c.smaller.result c.loop-i.invariant.1 c.smaller.ensures c.portion-n.ensures)
