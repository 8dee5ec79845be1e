use Rattle.outcomes.specs.Outcome.{result_of}
use borrow.Author.Tests.{eq-eqb, ne_eqb}
use Rattle.calls.proofs.result.of_refusal.Goals as goal

pub returns-then-refusal-eq0 : goal.returns-then-refusal-eq0
unfolding result_of
returns-then-refusal-eq0 c = rw (eq-eqb _ _ c.if-refusal-eq0.true)

pub returns-then-refusal-eq-UNEQUAL : goal.returns-then-refusal-eq-UNEQUAL
unfolding result_of
returns-then-refusal-eq-UNEQUAL c = rw (ne_eqb _ _ c.if-refusal-eq0.false, eq-eqb _ _ c.if-refusal-eq-UNEQUAL.true)

pub returns : goal.returns
unfolding result_of
returns c = rw (ne_eqb _ _ c.if-refusal-eq0.false, ne_eqb _ _ c.if-refusal-eq-UNEQUAL.false)
