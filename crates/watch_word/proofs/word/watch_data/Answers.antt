use mathlib.Core.Bool.{false}
use Rattle.machine.specs.Machine.{assembled}
use Rattle.machine.specs.Place.{state}
use Rattle.meaning.specs.Tree.{on}
use Rattle.place_marks.specs.Word.{map_in}
use Rattle.processing.specs.Data.{data_tree}
use Rattle.run_word.proofs.Scalars.{the_operation}
use Rattle.run_word.proofs.Words.{data_done, data_undefined}
use Rattle.watched_class.proofs.Worded.{hanging, not_hanging}
use Rattle.watch_word.proofs.word.watch_data.Goals as goal

pub watch_scalar-requires : goal.watch_scalar-requires
watch_scalar-requires c = let known = c.is_scalar.ensures c.if-is_scalar.true in (c.number-n.ensures, c.requires.1, known.0, known.1, known.2)

pub returns-then-is_scalar : goal.returns-then-is_scalar
returns-then-is_scalar c = λ v w. c.watch_scalar.ensures c.args.r.now v w

pub hang_data-hang-requires : goal.hang_data-hang-requires
hang_data-hang-requires c = the_operation c.args.op c.number-n.result c.from-o.result c.number-n.ensures c.from-o.ensures

pub mark_data-known-requires : goal.mark_data-known-requires
mark_data-known-requires c = the_operation c.args.op c.number-n.result c.from-o.result c.number-n.ensures c.from-o.ensures

pub process-after-requires : goal.process-after-requires
process-after-requires c = the_operation c.args.op c.number-n.result c.from-o.result c.number-n.ensures c.from-o.ensures

pub returns-in-At : goal.returns-in-At
returns-in-At c = let a = c.args in λ v w. hanging (data_tree false a.op) (state (assembled a.s.now a.r.now a.x false) v) (map_in a.marks w) _ (rw c.in-At.is at (c.hang_data-hang.ensures (state (assembled a.s.now a.r.now a.x false) v) w))

pub returns-in-Done : goal.returns-in-Done
returns-in-Done c = let a = c.args in λ v w. rw (c.done.ensures.0, c.done.ensures.1, c.done.ensures.2) (not_hanging (data_tree false a.op) (state (assembled a.s.now a.r.now a.x false) v) _ (map_in a.marks w) _ on (rw c.in-Clear.is at (c.hang_data-hang.ensures (state (assembled a.s.now a.r.now a.x false) v) w)) (data_done a.op a.s.now a.r.now a.x _ c.process-after.result c.process-after.ensures v _ c.in-Done.is) (c.mark_data-known.ensures false (assembled a.s.now a.r.now a.x false) v w))

pub returns-in-Undefined : goal.returns-in-Undefined
returns-in-Undefined c = let a = c.args in λ v w. not_hanging (data_tree false a.op) (state (assembled a.s.now a.r.now a.x false) v) _ (map_in a.marks w) _ _ (rw c.in-Clear.is at (c.hang_data-hang.ensures (state (assembled a.s.now a.r.now a.x false) v) w)) (data_undefined a.op a.s.now a.r.now a.x _ c.process-after.result c.process-after.ensures v _ c.in-Undefined.is c.current_pc-pc.ensures) (c.mark_data-known.ensures false (assembled a.s.now a.r.now a.x false) v w)
