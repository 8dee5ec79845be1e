use Rattle.phases.proofs.Loops.{raised_fits, raised_one}
use Rattle.phases.specs.Phase.{raised}
use Rattle.phases.specs.Round.{most}
use mathlib.Core.Path.{refl}
use lib.ListN.{length-set}
use native.Mathlib.Omega.{arith}
use Rattle.phases.proofs.phase.raise.Goals as goal

pub loop-i-init : goal.loop-i-init
unfolding raised
loop-i-init c = (omega arith, refl, refl)

pub overflow_add-grants : goal.overflow_add-grants
overflow_add-grants c = record { fits = omega (arith, raised_fits c.args.words (most c.args.limits.now c.args.left.now) c.args.grants.now c.loop-i.grants c.loop-i.i c.portion.result c.smaller.result c.loop-i.invariant.2 c.smaller.ensures c.portion.ensures (omega arith) c.requires.1, c.slice_known-in-loop-i-2-1.given c.loop-i.i, c.smaller.type_inv) }

pub loop-i-preserved : goal.loop-i-preserved
loop-i-preserved c = (omega arith, simp length-set c.loop-i.invariant.1, raised_one c.args.words (most c.args.limits.now c.args.left.now) c.args.grants.now c.loop-i.grants c.loop-i.i c.portion.result c.smaller.result c.loop-i.invariant.2 c.smaller.ensures c.portion.ensures)
