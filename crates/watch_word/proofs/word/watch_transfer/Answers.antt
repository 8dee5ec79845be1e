use mathlib.Core.Bool.{false}
use Rattle.machine.specs.Machine.{assembled}
use Rattle.machine.specs.Place.{state}
use Rattle.place_marks.specs.Word.{map_in}
use mathlib.Core.Path.{sym, ◌∙◌}
use Rattle.meaning.specs.Step.{nothing}
use Rattle.meaning.specs.Tree.{on, last, go}
use Rattle.meaning.proofs.Laws.{plain-nothing, marked-nothing}
use Rattle.transfers.specs.declared.Transfer.TheVariants.{System, Single, Nothing}
use Rattle.transfers.specs.Transfer.{system_tree, single_tree}
use Rattle.transfers.proofs.Transfers.{by_transfer}
use Rattle.hangs.proofs.Hangs.{transfer_clear}
use Rattle.watched_class.proofs.Worded.{not_hanging}
use Rattle.watch_word.proofs.word.watch_transfer.Goals as goal

pub returns-then-single_core : goal.returns-then-single_core
returns-then-single_core c v w = let a = c.args in let n = c.in-Single.sn in rw (by_transfer (Single n) false a.op (sym c.transfer_of-transfer.ensures ∙ c.in-Single.is)) (not_hanging (single_tree false n.0 a.op) (state (assembled a.s.now a.r.now a.x false) v) _ (map_in a.marks w) _ last (transfer_clear (Single n) false a.op (state (assembled a.s.now a.r.now a.x false) v) (map_in a.marks w)) (rw c.if-single_core.true at (c.single_core.ensures a.x v)) (c.mark_single_core-known.ensures false (state (assembled a.s.now a.r.now a.x false) v) w))

pub returns-in-System : goal.returns-in-System
returns-in-System c v w = let a = c.args in rw (by_transfer System false a.op (sym c.transfer_of-transfer.ensures ∙ c.in-System.is)) (not_hanging (system_tree a.op) (state (assembled a.s.now a.r.now a.x false) v) _ (map_in a.marks w) _ on (transfer_clear System false a.op (state (assembled a.s.now a.r.now a.x false) v) (map_in a.marks w)) (c.system.ensures a.s.now v false) (c.mark_system-known.ensures (state (assembled a.s.now a.r.now a.x false) v) w))

pub returns-else-single_core : goal.returns-else-single_core
returns-else-single_core c v w = let a = c.args in let n = c.in-Single.sn in rw (by_transfer (Single n) false a.op (sym c.transfer_of-transfer.ensures ∙ c.in-Single.is)) (not_hanging (single_tree false n.0 a.op) (state (assembled a.s.now a.r.now a.x false) v) _ (map_in a.marks w) _ on (transfer_clear (Single n) false a.op (state (assembled a.s.now a.r.now a.x false) v) (map_in a.marks w)) (rw c.if-single_core.false at (c.single_core.ensures a.x v)) (c.mark_single_core-known.ensures false (state (assembled a.s.now a.r.now a.x false) v) w))

pub returns-in-Nothing : goal.returns-in-Nothing
returns-in-Nothing c v w = let a = c.args in rw (by_transfer Nothing false a.op (sym c.transfer_of-transfer.ensures ∙ c.in-Nothing.is)) (not_hanging (go nothing) (state (assembled a.s.now a.r.now a.x false) v) _ (map_in a.marks w) _ on (transfer_clear Nothing false a.op (state (assembled a.s.now a.r.now a.x false) v) (map_in a.marks w)) (plain-nothing (state (assembled a.s.now a.r.now a.x false) v)) (marked-nothing (state (assembled a.s.now a.r.now a.x false) v) (map_in a.marks w)))
