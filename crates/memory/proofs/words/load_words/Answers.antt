use native.Mathlib.Omega.{arith}
use Rattle.meaning.proofs.Laws.{after_none, after_one}
use Rattle.memory.proofs.words.load_words.Goals as goal

pub loop-i-init : goal.loop-i-init
loop-i-init c = (omega arith, λ q. after_none _ _)

pub loop-i-preserved : goal.loop-i-preserved
loop-i-preserved c = (omega arith, λ q. rw (c.set_single.ensures, c.read32-value.ensures, c.plus.ensures) (after_one _ _ _ _ (c.loop-i.invariant.1 q)))
