use Rattle.memory.proofs.Trees.{ours, others}
use Rattle.meaning.proofs.Laws.{plain-nothing, marked-nothing}
use Rattle.access_marks.proofs.watched_load_store.Goals as goal

pub returns-then-coproc : goal.returns-then-coproc
returns-then-coproc c = (λ q. rw (others _ _ (rw c.bits-coproc.ensures at c.if-coproc.true)) (plain-nothing _), λ q v. rw (others _ _ (rw c.bits-coproc.ensures at c.if-coproc.true)) (marked-nothing _ _), c.requires)

pub returns : goal.returns
returns c = (λ q. rw (ours _ _ (rw c.bits-coproc.ensures at c.if-coproc.false)) (rw c.bits-coproc.ensures at (c.watched_access.ensures.0 q)), λ q v. rw (ours _ _ (rw c.bits-coproc.ensures at c.if-coproc.false)) (rw c.bits-coproc.ensures at (c.watched_access.ensures.1 q v)), c.watched_access.ensures.2)
