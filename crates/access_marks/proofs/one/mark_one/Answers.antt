use mathlib.Core.Path.{sym, ◌∙◌}
use Rattle.watched_words.proofs.InTurn.{one_loaded, one_stored}
use Rattle.access_marks.proofs.one.mark_one.Goals as goal

pub returns-then-bit : goal.returns-then-bit
returns-then-bit c = (rw (sym c.bit.ensures ∙ c.if-bit.true) (c.mark.ensures c.args.window_marks.now ∙ one_loaded _ _ _ _ _ _ c.word_known-b.ensures), c.requires)

pub returns : goal.returns
returns c = (rw (sym c.bit.ensures ∙ c.if-bit.false, c.mark_word.ensures) (one_stored _ _ _ _ _ _ (c.known-b.ensures c.args.window_marks.now)), rw c.mark_word.ensures c.ones_after.ensures)
