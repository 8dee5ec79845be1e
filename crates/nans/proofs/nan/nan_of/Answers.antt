use Rattle.std.proofs.Common.{sym, ◌∙◌}
use Rattle.nans.proofs.Choosing.{nan_default, nan_chosen}
use Rattle.nans.proofs.nan.nan_of.Goals as goal

pub returns-then-is_default : goal.returns-then-is_default
returns-then-is_default g c =
    c.default_nan.ensures
    ∙ nan_default g.W.Precision.format _ _ _ (sym c.is_default.ensures ∙ c.if-is_default.true)

pub returns : goal.returns
returns g c =
    c.quieted.ensures
    ∙ nan_chosen g.W.Precision.format _ _ _ _ (sym c.is_default.ensures ∙ c.if-is_default.false) c.chosen.ensures
