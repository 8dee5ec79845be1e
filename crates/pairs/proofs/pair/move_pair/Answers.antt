use Rattle.addresses.proofs.Singles.{low_single, high_single}
use Rattle.pairs.proofs.pair.move_pair.Goals as goal

pub returns-then-double : goal.returns-then-double
returns-then-double c = λ q v. rw c.if-double.true (rw (c.low_word.ensures, c.high_word.ensures, c.dreg-dm.ensures, c.bits-m_bit.ensures, low_single, high_single) at (c.move_both.ensures q v))
