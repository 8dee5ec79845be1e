use Rattle.directed.proofs.Composing.{nans_give, numbers_give}
use Rattle.exceptions.specs.Operators.{quotient_exceptions}
use Rattle.operators.specs.Operators.{quotient}
use Rattle.directed.proofs.step.divided.Goals as goal

pub returns-then-is_nan : goal.returns-then-is_nan
returns-then-is_nan g c = nans_give quotient quotient_exceptions g.W.Precision.format c.args.control _ _ _ _ _ _ c.is_nan.ensures c.is_nan-2.ensures c.of_nan.ensures c.if-is_nan.true

pub returns : goal.returns
returns g c = numbers_give quotient quotient_exceptions g.W.Precision.format c.args.control _ _ _ _ _ _ c.is_nan.ensures c.is_nan-2.ensures _ c.rounding_of.ensures c.quotient.ensures c.if-is_nan.false
