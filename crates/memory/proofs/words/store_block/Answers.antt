use lib.ListN.{length-set}
use native.Mathlib.Omega.{arith}
use mathlib.Core.Path.{refl, ◌∙◌}
use Rattle.memory.proofs.Block.{stored}
use Rattle.meaning.proofs.Laws.{after_none}
use Rattle.memory.proofs.words.store_block.Goals as goal

pub loop-i-init : goal.loop-i-init
loop-i-init c = (omega arith, refl, λ q. after_none _ _)

pub loop-i-preserved : goal.loop-i-preserved
loop-i-preserved c = (omega arith, length-set c.loop-i.window _ _ ∙ c.loop-i.invariant.1, λ q. rw c.word_at-at.ensures (stored _ _ _ _ _ _ c.requires (omega arith) q _ _ _ (c.loop-i.invariant.2 q)))
