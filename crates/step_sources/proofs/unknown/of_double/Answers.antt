use Rattle.step_sources.proofs.Words.{high, low}
use Rattle.step_sources.proofs.unknown.of_double.Goals as goal

pub returns-then-is_known : goal.returns-then-is_known
returns-then-is_known c = high c.args.marks c.args.x.0 _ c.is_known.ensures c.if-is_known.true

pub returns : goal.returns
returns c = low c.args.marks c.args.x.0 _ c.is_known.ensures c.if-is_known.false
