use Rattle.std.proofs.Common.{sym, ◌∙◌}
use Rattle.floats.proofs.Patterns.{reads_nan}
use Rattle.floats.proofs.word.float.Goals as goal

pub returns-then-is_nan : goal.returns-then-is_nan
returns-then-is_nan g c = c.nan.ensures ∙ sym (reads_nan g.W.Precision.format _ (sym c.is_nan.ensures ∙ c.if-is_nan.true))
