use mathlib.Core.Path.{refl, ◌∙◌}
use Prim.Native.Nat.{◌+◌}
use native.Mathlib.Omega.{arith}
use lib.ListN.{length-set}
use Rattle.meaning.proofs.Laws.{marks_none}
use Rattle.known_places.proofs.Count.{ones_for}
use Rattle.window_marks.proofs.Ones.{ones_le}
use Rattle.block_marks.proofs.Block.{stored}
use Rattle.block_marks.proofs.mark_block_store.Goals as goal

pub loop-i-init : goal.loop-i-init
loop-i-init c = (omega arith, refl, omega (arith, c.requires.1), omega arith, omega arith, marks_none _ _)

pub loop-i-preserved : goal.loop-i-preserved
loop-i-preserved c = (omega arith, length-set c.loop-i.window_marks _ _ ∙ c.loop-i.invariant.1, rw c.byte_of-b.ensures.0 (omega (arith, ones_for c.loop-i.window_marks (c.word_at-at.result + c.loop-i.i) (omega arith) c.is_known.result, c.byte_of.ensures.0, c.byte_of.ensures.1, c.loop-i.invariant.2, c.loop-i.invariant.4)), omega (arith, c.byte_of-b.ensures.1, c.loop-i.invariant.3), omega (arith, c.byte_of.ensures.1, c.loop-i.invariant.4), rw (c.byte_of-b.ensures.0, c.word_at-at.ensures) (stored _ _ _ _ _ _ _ _ _ c.requires.0 (omega arith) _ (c.is_known.ensures c.loop-i.window_marks) c.loop-i.invariant.5))

pub overflow_add-result : goal.overflow_add-result
overflow_add-result c = omega (arith, c.loop-i.invariant.3, c.requires.1, ones_le c.args.window_marks.now)
