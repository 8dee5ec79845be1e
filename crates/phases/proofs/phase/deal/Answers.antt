use Prim.Native.Nat.{◌+◌}
use Rattle.phases.proofs.Phases.{each_fits, each_within, remains_after, rounds_after, less_after, last_round, no_round}
use Rattle.phases.specs.Round.{sum, most}
use mathlib.Core.Path.{◌∙◌}
use native.Mathlib.Omega.{arith}
use Rattle.phases.proofs.phase.deal.Goals as goal

pub returns-then-n-eq0 : goal.returns-then-n-eq0
returns-then-n-eq0 c = no_round (sum c.args.grants.now + c.args.words) (most c.args.limits.now c.args.left.now) c.loop-n.grants c.args.grants.now c.loop-n.n c.loop-n.rest 0 0 c.loop-n.invariant.1 c.loop-n.invariant.2 c.if-n-eq0.true ∙ c.loop-n.invariant.3

pub raise-requires : goal.raise-requires
raise-requires c = (record { limited = omega arith; covered = omega arith; few = omega arith }, each_fits (sum c.args.grants.now + c.args.words) (most c.args.limits.now c.args.left.now) c.loop-n.grants c.loop-n.grants c.loop-n.n c.loop-n.rest c.least.result c.smaller-each.result c.loop-n.invariant.1 c.loop-n.invariant.2 c.least.ensures c.smaller-each.ensures)

pub loop-n-smaller : goal.loop-n-smaller
loop-n-smaller c = less_after (sum c.args.grants.now + c.args.words) (most c.args.limits.now c.args.left.now) c.loop-n.grants c.raise.new.grants c.loop-n.n c.loop-n.rest c.least.result c.smaller-each.result c.loop-n.invariant.1 c.loop-n.invariant.2 c.count-n-in-loop-n.result (λ i. omega (arith, c.shared_slice_known-1.given i)) c.loop-n-test.true (omega arith) c.least.ensures c.smaller-each.ensures c.raise.ensures c.count-n-in-loop-n.ensures

pub loop-n-preserved : goal.loop-n-preserved
loop-n-preserved c = (c.raise.auto.grants ∙ c.loop-n.invariant.0, c.count-n-in-loop-n.ensures, remains_after (sum c.args.grants.now + c.args.words) (most c.args.limits.now c.args.left.now) c.loop-n.grants c.raise.new.grants c.loop-n.n c.loop-n.rest c.least.result c.smaller-each.result c.loop-n.invariant.1 c.loop-n.invariant.2 (each_within (sum c.args.grants.now + c.args.words) (most c.args.limits.now c.args.left.now) c.loop-n.grants c.loop-n.grants c.loop-n.n c.loop-n.rest c.least.result c.smaller-each.result c.loop-n.invariant.1 c.loop-n.invariant.2 c.smaller-each.ensures) c.raise.ensures, rounds_after (sum c.args.grants.now + c.args.words) (most c.args.limits.now c.args.left.now) c.loop-n.grants c.raise.new.grants c.loop-n.n c.loop-n.rest c.least.result c.smaller-each.result c.loop-n.invariant.1 c.loop-n.invariant.2 (each_within (sum c.args.grants.now + c.args.words) (most c.args.limits.now c.args.left.now) c.loop-n.grants c.loop-n.grants c.loop-n.n c.loop-n.rest c.least.result c.smaller-each.result c.loop-n.invariant.1 c.loop-n.invariant.2 c.smaller-each.ensures) (each_fits (sum c.args.grants.now + c.args.words) (most c.args.limits.now c.args.left.now) c.loop-n.grants c.loop-n.grants c.loop-n.n c.loop-n.rest c.least.result c.smaller-each.result c.loop-n.invariant.1 c.loop-n.invariant.2 c.least.ensures c.smaller-each.ensures) c.raise.ensures ∙ c.loop-n.invariant.3, omega arith)

pub returns : goal.returns
returns c = last_round (sum c.args.grants.now + c.args.words) (most c.args.limits.now c.args.left.now) c.loop-n.grants c.round.new.grants c.loop-n.n c.loop-n.rest 0 0 c.loop-n.invariant.1 c.loop-n.invariant.2 c.loop-n-test.false c.round.ensures ∙ c.loop-n.invariant.3
