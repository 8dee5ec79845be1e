use mathlib.Core.Path.{sym, ◌∙◌}
use Rattle.machine.specs.Place.{state}
use Rattle.machine.specs.Machine.{with_s, with_r}
use Rattle.memory.proofs.Trees as trees
use Rattle.memory.proofs.One as one
use Rattle.access_marks.proofs.Trees.{paired, accessed}
use Rattle.access_marks.proofs.OneRegister.{one_accessed}
use Rattle.access_marks.proofs.watched_access.Goals as goal

pub returns-then-bits-eq98 : goal.returns-then-bits-eq98
returns-then-bits-eq98 c = (λ q. trees.paired _ _ _ _ _ (sym c.bits.ensures ∙ c.if-bits-eq98.true) (c.move_pair.ensures q _), λ q v. paired _ _ _ _ _ _ (sym c.bits.ensures ∙ c.if-bits-eq98.true) (c.mark_pair-y.ensures _), c.requires)

pub returns-then-one_only : goal.returns-then-one_only
returns-then-one_only c = (λ q. one.one_accessed _ (sym c.one_only.ensures ∙ c.if-one_only.true) _ _ _ _ (rw c.bits.ensures at c.if-bits-eq98.false) (rw (c.start_of-start.ensures, c.bits-rn.ensures) at (c.watched_one.ensures.0 (with_r q c.args.r.now))), λ q v. one_accessed _ (sym c.one_only.ensures ∙ c.if-one_only.true) _ _ (state (with_r q c.args.r.now) v) _ _ (rw c.bits.ensures at c.if-bits-eq98.false) (rw (c.start_of-start.ensures, c.bits-rn.ensures) at c.watched_one.ensures.1), c.watched_one.ensures.2)

pub returns : goal.returns
returns c = (λ q. trees.accessed _ _ _ _ (state (with_s (with_r q c.args.r.now) c.watched_transfer.new.s) c.watched_transfer.new.window) _ (rw c.bits.ensures at c.if-bits-eq98.false) (rw (c.start_of-start-2.ensures, c.bits-rn.ensures) at (c.watched_transfer.ensures.0 (with_r q c.args.r.now))) (c.write_back.ensures (with_s q c.watched_transfer.new.s) c.watched_transfer.new.window), λ q v. accessed _ _ _ (state (with_r q c.args.r.now) v) _ _ (rw c.bits.ensures at c.if-bits-eq98.false) (rw (c.start_of-start-2.ensures, c.bits-rn.ensures) at c.watched_transfer.ensures.1), c.watched_transfer.ensures.2)
