use Rattle.integers.proofs.Whole.{whole_zero}
use Rattle.integers.proofs.integer.whole.Goals as goal

pub returns-then-n-eq0 : goal.returns-then-n-eq0
returns-then-n-eq0 g c = whole_zero _ g.W.Precision.format c.args.negative c.args.n _ _ _ _ c.if-n-eq0.true (rw c.rounding_of.ensures at c.settle.ensures)
