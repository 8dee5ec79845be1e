use native.Mathlib.Omega.{arith}
use Rattle.memory.proofs.Block.{loaded}
use Rattle.meaning.proofs.Laws.{after_none}
use Rattle.memory.proofs.words.load_block.Goals as goal

pub loop-i-init : goal.loop-i-init
loop-i-init c = (omega arith, λ q. after_none _ _)

pub loop-i-preserved : goal.loop-i-preserved
loop-i-preserved c = (omega arith, λ q. rw c.word_at-at.ensures (loaded _ _ _ _ _ _ c.requires (omega arith) q _ _ _ (c.loop-i.invariant.1 q)))
