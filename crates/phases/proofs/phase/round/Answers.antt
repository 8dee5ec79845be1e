use Rattle.phases.proofs.Loops.{portion_fits, portion_few, turns_one}
use Rattle.phases.proofs.Turns.{sum-set}
use Rattle.phases.specs.Phase.{extra}
use Rattle.phases.specs.Round.{sum, most, turns}
use mathlib.Core.Path.{refl, ◌∙◌, ap}
use Prim.Native.Nat.{ℕ, ◌+◌}
use lib.ListN.{get_or, length-set}
use native.Mathlib.Omega.{arith}
use Rattle.phases.proofs.phase.round.Goals as goal

pub loop-turn-init : goal.loop-turn-init
unfolding turns
loop-turn-init c = (omega arith, refl, refl, refl)

pub overflow_add-grants : goal.overflow_add-grants
overflow_add-grants c = record { fits = omega (arith, portion_fits c.loop-turn.rest (get_or c.loop-turn.grants c.loop-turn.turn 0) c.smaller.result c.smaller-in-loop-turn.result c.portion-one.result c.smaller.ensures c.portion-one.ensures, c.slice_known-in-loop-turn-2-1.given c.loop-turn.turn, c.smaller-in-loop-turn.type_inv) }

pub overflow_sub-rest : goal.overflow_sub-rest
overflow_sub-rest c = portion_few c.loop-turn.rest (get_or c.loop-turn.grants c.loop-turn.turn 0) c.smaller.result c.smaller-in-loop-turn.result c.portion-one.result c.smaller.ensures c.portion-one.ensures

pub loop-turn-preserved : goal.loop-turn-preserved
loop-turn-preserved c = (omega arith, simp length-set c.loop-turn.invariant.1, omega (arith, sum-set c.loop-turn.grants c.loop-turn.turn (get_or c.loop-turn.grants c.loop-turn.turn 0 + c.portion-one.result) (omega arith), portion_few c.loop-turn.rest (get_or c.loop-turn.grants c.loop-turn.turn 0) c.smaller.result c.smaller-in-loop-turn.result c.portion-one.result c.smaller.ensures c.portion-one.ensures), turns_one (sum c.args.grants.now + c.args.words) (most c.args.limits.now c.args.left.now) c.args.grants.now c.loop-turn.grants c.loop-turn.turn c.loop-turn.rest c.portion-one.result c.smaller-in-loop-turn.result c.loop-turn.invariant.3 c.loop-turn.invariant.2 c.smaller-in-loop-turn.ensures (c.portion-one.ensures ∙ ap (λ (z : ℕ). extra z (get_or c.loop-turn.grants c.loop-turn.turn 0) c.smaller-in-loop-turn.result) c.smaller.ensures))
