use Rattle.bits.specs.Field.{bit_of}
use Rattle.machine.specs.Place.{state}
use Rattle.machine.specs.Machine.{with_s}
use Rattle.place_marks.specs.Word.{map_in}
use Rattle.memory.proofs.One as one
use Rattle.access_marks.proofs.OneRegister.{both}
use Rattle.access_marks.proofs.one.watched_one.Goals as goal

pub returns-then-double : goal.returns-then-double
returns-then-double c = (λ q. rw c.if-double.true (one.both (bit_of c.args.op 20) c.args.base _ c.args.start _ (state (with_s q c.args.s.now) c.args.window.now) _ _ (rw c.if-double.true at c.first_word-first.ensures.0) (c.watched_word-y.ensures.0 q) (rw c.plus.ensures at (c.watched_word.ensures.0 q))), rw c.if-double.true (both (bit_of c.args.op 20) c.args.base _ c.args.start _ (map_in c.args.marks c.args.window_marks.now) _ _ (rw c.if-double.true at c.first_word-first.ensures.0) c.watched_word-y.ensures.1 (rw c.plus.ensures at c.watched_word.ensures.1)), c.watched_word.ensures.2)
