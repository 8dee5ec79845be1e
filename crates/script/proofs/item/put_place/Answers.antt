use Rattle.script.specs.Item.{put_at}
use borrow.Author.Tests.{lt-ltb, le-ltb}
use Rattle.script.proofs.item.put_place.Goals as goal

pub returns-then-p-lt-WINDOW : goal.returns-then-p-lt-WINDOW
unfolding put_at
returns-then-p-lt-WINDOW c = λ μ l. rw (lt-ltb _ _ c.if-p-lt-WINDOW.true, c.in_position.ensures)

pub returns : goal.returns
unfolding put_at
returns c = λ μ l. rw (le-ltb _ _ c.if-p-lt-WINDOW.false, c.put_word.ensures)
