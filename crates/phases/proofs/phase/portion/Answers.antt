use Rattle.phases.specs.Phase.{extra}
use borrow.Author.Tests.{lt-ltb, le-ltb}
use Rattle.phases.proofs.phase.portion.Goals as goal

pub returns-then-has-most : goal.returns-then-has-most
unfolding extra
returns-then-has-most c = rw (lt-ltb _ _ c.if-has-most.true)

pub returns : goal.returns
unfolding extra
returns c = rw (le-ltb _ _ c.if-has-most.false)
