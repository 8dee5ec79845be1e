use Rattle.std.proofs.Common.{sym, ◌∙◌, arith}
use lib.Ieee.{binary32, binary64}
use Rattle.nans.proofs.Choosing.{resized_default, resized_by}
use Rattle.nans.proofs.nan.narrowed_nan.Goals as goal

pub returns-then-is_default : goal.returns-then-is_default
returns-then-is_default c = c.default_nan.ensures ∙ resized_default binary64 binary32 _ _ (sym c.is_default.ensures ∙ c.if-is_default.true)

pub returns : goal.returns
returns c = c.quieted.ensures ∙ resized_by binary64 binary32 _ c.args.w _ (sym c.is_default.ensures ∙ c.if-is_default.false) (omega arith)
