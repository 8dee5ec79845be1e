use Rattle.rounding.proofs.Cutting.{unit_least, sum_is, cut_is}
use mathlib.Core.Path.{refl}
use Rattle.rounding.proofs.rounding.cut.Goals as goal

pub increment-requires : goal.increment-requires
increment-requires c = unit_least _ _ c.power-u.ensures c.requires.1

pub returns : goal.returns
returns c = cut_is c.args.mode c.args.negative c.args.m c.power-u.result _ _ _ c.power-u.ensures (sum_is _ _ c.power-u.ensures c.args.mode c.args.negative c.args.m _ c.requires.1 c.increment.ensures) refl
