use borrow.Author.Tests.{lt-ltb, le-ltb}
use Rattle.script.specs.Item.{store}
use Rattle.script.proofs.item.put_word.Goals as goal

pub returns-then-i-lt16384 : goal.returns-then-i-lt16384
unfolding store
returns-then-i-lt16384 c = rw (lt-ltb _ _ c.if-i-lt16384.true)

pub returns-else-i-lt16384 : goal.returns-else-i-lt16384
unfolding store
returns-else-i-lt16384 c = rw (le-ltb _ _ c.if-i-lt16384.false)
