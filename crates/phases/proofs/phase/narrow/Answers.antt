use Rattle.phases.specs.Phase.{narrowed}
use borrow.Author.Tests.{lt-ltb, le-ltb}
use Rattle.phases.proofs.phase.narrow.Goals as goal

pub returns-then-has-cap : goal.returns-then-has-cap
unfolding narrowed
returns-then-has-cap c = rw (lt-ltb _ _ c.if-has-cap.true) c.smaller.ensures

pub returns : goal.returns
unfolding narrowed
returns c = rw (le-ltb _ _ c.if-has-cap.false)
