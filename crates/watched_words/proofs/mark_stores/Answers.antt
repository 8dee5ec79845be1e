use Rattle.watched_words.proofs.InTurn.{stored}
use mathlib.Core.Path.{refl, ◌∙◌}
use native.Mathlib.Omega.{arith}
use Rattle.meaning.proofs.Laws.{marks_none}
use Rattle.watched_words.proofs.mark_stores.Goals as goal

pub loop-i-init : goal.loop-i-init
loop-i-init c = (omega arith, refl, c.requires.2, marks_none _ _)

pub loop-i-preserved : goal.loop-i-preserved
loop-i-preserved c = (omega arith, c.mark_word.auto.marks ∙ c.loop-i.invariant.1, rw c.mark_word.ensures c.ones_after-y.ensures, rw (c.mark_word.ensures, c.plus-address.ensures) (stored _ _ _ _ _ _ _ _ (c.known-b.ensures c.loop-i.window_marks) c.loop-i.invariant.3))
