use Rattle.grants.proofs.Loops.{within_not, within_on, within_end}
use mathlib.Core.Path.{◌∙◌}
use native.Mathlib.Omega.{arith}
use Rattle.grants.proofs.refusal.is_within.Goals as goal

pub returns-then-limits-i : goal.returns-then-limits-i
returns-then-limits-i c = within_not c.args.shares.now c.args.limits.now c.loop-i.i (omega arith) (omega arith) c.if-limits-i.true ∙ c.loop-i.invariant.1

pub loop-i-preserved : goal.loop-i-preserved
loop-i-preserved c = (omega arith, within_on c.args.shares.now c.args.limits.now c.loop-i.i (omega arith) (omega arith) c.if-limits-i.false ∙ c.loop-i.invariant.1)

pub returns : goal.returns
returns c = within_end c.args.shares.now c.args.limits.now c.loop-i.i c.loop-i-test.false ∙ c.loop-i.invariant.1
