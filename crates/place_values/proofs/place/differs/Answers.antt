use Rattle.place_values.specs.Place.{differs_of}
use borrow.Author.Tests.{not-true, not-false}
use mathlib.Core.Bool.{beq}
use Rattle.place_values.proofs.place.differs.Goals as goal

pub returns-then-was-is : goal.returns-then-was-is
unfolding differs_of
returns-then-was-is c = rw (not-true (beq c.args.was c.args.is) c.if-was-is.true)

pub returns-then-is : goal.returns-then-is
unfolding differs_of
returns-then-is c = rw (not-false (beq c.args.was c.args.is) c.if-was-is.false, c.if-is.true)

pub returns : goal.returns
unfolding differs_of
returns c = rw (not-false (beq c.args.was c.args.is) c.if-was-is.false, c.if-is.false)
