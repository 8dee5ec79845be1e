use lib.Ieee.{binary64}
use Rattle.rounding.specs.Rounding.{rounding_of}
use Rattle.rounding.specs.declared.rounding.Rounding.TheVariants.{Nearest}
use Rattle.integers.proofs.Whole.{whole_some}
use Rattle.integers.proofs.Laws.{double_settled}
use Rattle.integers.proofs.integer.U64FromInteger.fitted.Goals as goal

pub returns : goal.returns
returns c =
    let a = c.args in
    double_settled (rounding_of a._control) a.negative a.n _ _ _ _ c.requires.0 (whole_some Nearest binary64 a.negative a.n a.up _ _ _ _ c.requires.1 c.settle-r.ensures)
