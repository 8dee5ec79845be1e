use mathlib.Core.Path.{sym, ◌∙◌}
use Rattle.machine.specs.Place.{state}
use Rattle.machine.specs.Machine.{with_s, with_r}
use Rattle.memory.proofs.Trees.{paired, accessed}
use Rattle.memory.proofs.One.{one_accessed}
use Rattle.load_stores.proofs.access.load_store.Goals as goal

pub returns-then-bits-eq98 : goal.returns-then-bits-eq98
returns-then-bits-eq98 c = λ q. paired _ _ _ _ _ (sym c.bits.ensures ∙ c.if-bits-eq98.true) (c.move_pair.ensures q _)

pub returns-then-one_only : goal.returns-then-one_only
returns-then-one_only c = λ q. one_accessed _ (sym c.one_only.ensures ∙ c.if-one_only.true) _ _ _ _ (rw c.bits.ensures at c.if-bits-eq98.false) (rw (c.start_of-start.ensures, c.bits-rn.ensures) at (c.move_one.ensures (with_r q c.args.r.now)))

pub returns : goal.returns
returns c = λ q. accessed _ _ _ _ (state (with_s (with_r q c.args.r.now) c.transfer.new.s) c.transfer.new.window) _ (rw c.bits.ensures at c.if-bits-eq98.false) (rw (c.start_of-start-2.ensures, c.bits-rn.ensures) at (c.transfer.ensures (with_r q c.args.r.now))) (c.write_back.ensures (with_s q c.transfer.new.s) c.transfer.new.window)
