use Rattle.meaning.proofs.Laws.{plain-nothing}
use Rattle.memory.proofs.Trees.{ours, others}
use Rattle.load_stores.proofs.access.coprocessor_load_store.Goals as goal

pub returns-then-coproc : goal.returns-then-coproc
returns-then-coproc c = λ q. rw (others _ _ (rw c.bits-coproc.ensures at c.if-coproc.true)) (plain-nothing _)

pub returns : goal.returns
returns c = λ q. rw (ours _ _ (rw c.bits-coproc.ensures at c.if-coproc.false)) (rw c.bits-coproc.ensures at (c.load_store.ensures q))
