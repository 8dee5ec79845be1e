use Rattle.bits.specs.Field.{bit_of}
use Rattle.machine.specs.Place.{state}
use Rattle.machine.specs.Machine.{with_s}
use Rattle.memory.proofs.One.{both}
use Rattle.load_stores.proofs.access.move_one.Goals as goal

pub returns-then-double : goal.returns-then-double
returns-then-double c = λ q. rw c.if-double.true (both (bit_of c.args.op 20) c.args.base _ c.args.start _ (state (with_s q c.args.s.now) c.args.window.now) _ _ (rw c.if-double.true at c.first_word-first.ensures.0) (c.move_word.ensures q) (rw c.plus.ensures at (c.move_word-then-double.ensures q)))
