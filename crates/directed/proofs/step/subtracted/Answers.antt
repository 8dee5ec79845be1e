use Rattle.directed.proofs.Composing.{difference_by, nans_give, numbers_give}
use Rattle.exceptions.specs.Operators.{difference_exceptions}
use Rattle.operators.specs.Operators.{difference}
use Rattle.directed.proofs.step.subtracted.Goals as goal

pub returns-then-is_nan : goal.returns-then-is_nan
returns-then-is_nan g c = nans_give difference difference_exceptions g.W.Precision.format c.args.control _ _ _ _ _ _ c.is_nan.ensures c.is_nan-2.ensures c.of_nan.ensures c.if-is_nan.true

pub returns : goal.returns
returns g c = numbers_give difference difference_exceptions g.W.Precision.format c.args.control _ _ _ _ _ _ c.is_nan.ensures c.is_nan-2.ensures _ c.rounding_of.ensures (difference_by _ g.W.Precision.format _ _ _ _ _ c.sum.ensures c.negate.ensures) c.if-is_nan.false
