use Rattle.std.proofs.Common.{true, false, ◌∙◌}
use Rattle.nans.proofs.Choosing.{negation_is}
use Rattle.nans.proofs.nan.negation.Goals as goal

pub returns-then-is_default-is_nan : goal.returns-then-is_default-is_nan
returns-then-is_default-is_nan g c = negation_is g.W.Precision.format _ _ _ _ true c.is_default.ensures c.is_nan.ensures c.if-is_default-is_nan.true

pub returns : goal.returns
returns g c =
    c.flipped.ensures
    ∙ negation_is g.W.Precision.format _ _ _ _ false c.is_default.ensures c.is_nan.ensures c.if-is_default-is_nan.false
