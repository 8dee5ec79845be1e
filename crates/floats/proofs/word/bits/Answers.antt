use Rattle.std.proofs.Common.{sym, ◌∙◌}
use Rattle.floats.proofs.Patterns.{default_nan}
use Rattle.floats.proofs.word.bits.Goals as goal

pub returns-then-differs : goal.returns-then-differs
returns-then-differs g c = c.default_nan.ensures ∙ sym (default_nan g.W.Precision.format _ (sym c.differs.ensures ∙ c.if-differs.true))
