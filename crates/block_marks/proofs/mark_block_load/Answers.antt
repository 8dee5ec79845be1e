use mathlib.Core.Path.{refl, ◌∙◌}
use native.Mathlib.Omega.{arith}
use Rattle.meaning.proofs.Laws.{marks_none}
use Rattle.block_marks.proofs.Block.{loaded}
use Rattle.block_marks.proofs.mark_block_load.Goals as goal

pub loop-i-init : goal.loop-i-init
loop-i-init c = (omega arith, marks_none _ _)

pub loop-i-preserved : goal.loop-i-preserved
loop-i-preserved c = (omega arith, c.set_known-y.ensures _ ∙ rw c.word_at-at.ensures (loaded _ _ _ _ _ _ _ _ _ c.requires (omega arith) refl c.loop-i.invariant.1))
