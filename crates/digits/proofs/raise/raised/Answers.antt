use Rattle.std.proofs.Common.{arith}
use Rattle.packing.proofs.Settle.{edge_some}
use Rattle.digits.proofs.Raising.{raised_is}
use Rattle.digits.proofs.raise.raised.Goals as goal

pub returns : goal.returns
returns g c =
    raised_is c.args.mode g.W.Precision.format c.args.negative c.args.m c.args.e c.raise-up.result _ _ _ _ c.raise-up.ensures
    (omega (arith, c.raise-up.ensures.most, edge_some g.W.Precision.format)) c.settle-2.ensures
