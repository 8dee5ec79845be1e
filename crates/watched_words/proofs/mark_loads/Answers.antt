use Rattle.watched_words.proofs.InTurn.{loaded}
use mathlib.Core.Path.{◌∙◌}
use native.Mathlib.Omega.{arith}
use Rattle.meaning.proofs.Laws.{marks_none}
use Rattle.watched_words.proofs.mark_loads.Goals as goal

pub loop-i-init : goal.loop-i-init
loop-i-init c = (omega arith, marks_none _ _)

pub loop-i-preserved : goal.loop-i-preserved
loop-i-preserved c = (omega arith, c.mark-y.ensures _ ∙ loaded _ _ _ _ _ _ _ _ (rw c.plus.ensures at c.word_known-b.ensures) c.loop-i.invariant.1)
