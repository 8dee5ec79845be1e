use native.Mathlib.Omega.{arith}
use mathlib.Core.Path.{refl, ◌∙◌}
use Rattle.meaning.proofs.Laws.{after_none, after_one}
use Rattle.memory.proofs.words.store_words.Goals as goal

pub loop-i-init : goal.loop-i-init
loop-i-init c = (omega arith, refl, λ q. after_none _ _)

pub loop-i-preserved : goal.loop-i-preserved
loop-i-preserved c = (omega arith, c.write32.auto.window ∙ c.loop-i.invariant.1, λ q. rw (c.write32.ensures, c.get_single-value.ensures, c.plus.ensures) (after_one _ _ _ _ (c.loop-i.invariant.2 q)))
