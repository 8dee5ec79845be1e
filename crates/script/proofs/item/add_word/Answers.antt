use borrow.Author.Tests.{lt-ltb, le-ltb}
use Rattle.script.specs.Item.{word_outcome}
use Rattle.script.proofs.item.add_word.Goals as goal

pub returns-then-n-ge4096 : goal.returns-then-n-ge4096
unfolding word_outcome
returns-then-n-ge4096 c = λ s w μ. rw (le-ltb _ _ c.if-n-ge4096.true)

pub returns : goal.returns
unfolding word_outcome
returns c = λ s w μ. rw (lt-ltb _ _ c.if-n-ge4096.false)
