use borrow.Author.Tests.{not-true, not-false, eq-eqb, ne_eqb}
use Rattle.place_lines.specs.Exceptions.{exceptions_told}
use Rattle.place_lines.proofs.exceptions.is_told.Goals as goal

pub returns-then-not-is : goal.returns-then-not-is
unfolding exceptions_told
returns-then-not-is c = rw (not-true c.args.is c.if-not-is.true-raw)

pub returns-then-new-ne0 : goal.returns-then-new-ne0
unfolding exceptions_told
returns-then-new-ne0 c = rw (not-false c.args.is c.if-not-is.false-raw, ne_eqb _ _ c.if-new-ne0.true)

pub returns : goal.returns
unfolding exceptions_told
returns c = rw (not-false c.args.is c.if-not-is.false-raw, eq-eqb _ _ c.if-new-ne0.false) (rw (not-false c.args.is c.if-not-is.false-raw) at c.differs.ensures)
