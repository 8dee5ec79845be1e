use Rattle.integers.proofs.Whole.{by_value}
use Rattle.to_integers.proofs.to.to_integer.Goals as goal

pub returns : goal.returns
returns g c = by_value c.args.mode c.args.signed g.W.Precision.format _ _ _ _ c.as_double.ensures c.double_to_integer.ensures
