use Rattle.report.specs.Line.{word_text}
use borrow.Author.Tests.{lt-ltb, le-ltb}
use Rattle.text.proofs.Chain.{more, ended}
use mathlib.Core.List.{append_assoc}
use Rattle.report.proofs.line.at_word.Goals as goal

pub returns-then-i-list : goal.returns-then-i-list
unfolding word_text
returns-then-i-list c = rw (lt-ltb _ _ c.if-i-list.true) (ended _ _ _ (more _ _ _ _ (more _ _ _ _ (more _ _ _ _ (more _ _ _ _ (more _ _ _ _ c.add.ensures c.add_count.ensures) c.add-then-i-list.ensures) c.add_count-then-i-list.ensures) c.add-then-i-list-2.ensures) c.add_hex.ensures) (simp append_assoc))

pub returns : goal.returns
unfolding word_text
returns c = rw (le-ltb _ _ c.if-i-list.false) c.add-2.ensures
