use borrow.Author.Rules.{rules}
use Rattle.registers.proofs.Halves.{low_index_lem}
use Rattle.place_marks.proofs.Replaced.{set_two}
use Rattle.register_marks.proofs.Doubles.{neighbour}
use Rattle.register_marks.proofs.register.with_two.Goals as goal

pub returns : goal.returns
returns c = let a = c.args in rw (low_index_lem a.x.0, neighbour a.x.0) (set_two a.v a.marks a.x.0 (search rules))
