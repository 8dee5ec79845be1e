use borrow.Author.Tests.{eq-eqb, ne_eqb}
use Rattle.calls.proofs.state.check_condition_call.Goals as goal

pub returns-then-nzcv-ne0 : goal.returns-then-nzcv-ne0
returns-then-nzcv-ne0 c = rw (ne_eqb _ _ c.if-nzcv-ne0.true)

pub returns-then-check_condition : goal.returns-then-check_condition
returns-then-check_condition c = rw (eq-eqb _ _ c.if-nzcv-ne0.false, ← c.from_bits.ensures, ← c.check_condition.ensures, c.if-check_condition.true)

pub returns : goal.returns
returns c = rw (eq-eqb _ _ c.if-nzcv-ne0.false, ← c.from_bits.ensures, ← c.check_condition.ensures, c.if-check_condition.false)
