use Rattle.report.specs.Line.{last_text}
use borrow.Author.Tests.{lt-ltb, le-ltb}
use Rattle.report.proofs.line.after_word.Goals as goal

pub returns-then-count-gt0 : goal.returns-then-count-gt0
unfolding last_text
returns-then-count-gt0 c = rw (lt-ltb _ _ c.if-count-gt0.true) c.at_word.ensures

pub returns : goal.returns
unfolding last_text
returns c = rw (le-ltb _ _ c.if-count-gt0.false) c.add.ensures
