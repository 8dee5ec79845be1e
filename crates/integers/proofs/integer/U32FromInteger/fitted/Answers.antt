use lib.Ieee.{binary32}
use Rattle.rounding.specs.Rounding.{rounding_of}
use Rattle.integers.proofs.Whole.{whole_cut}
use Rattle.integers.proofs.integer.U32FromInteger.fitted.Goals as goal

pub returns : goal.returns
returns c = let a = c.args in whole_cut (rounding_of a.control) binary32 a.negative a.n a.up _ _ c.requires.1 c.shorten-c.ensures _ c.sign.ensures
