use Rattle.std.proofs.Common.{ap}
use Rattle.exceptions.proofs.Values.{handed}
use Rattle.sums.proofs.Special.{zeros_unlike, zeros_like}
use Rattle.sums.proofs.sum.zeros.Goals as goal

pub returns-then-unlike : goal.returns-then-unlike
returns-then-unlike g c =
    handed (ap g.W.Precision.number c.silent.ensures.0, c.silent.ensures.1)
    (zeros_unlike c.args.mode g.W.Precision.format _ _ _ c.zero_sum.ensures c.requires.0 c.requires.1 (cc))

pub returns : goal.returns
returns g c =
    handed (ap g.W.Precision.number c.silent-2.ensures.0, c.silent-2.ensures.1)
    (zeros_like c.args.mode g.W.Precision.format _ _ c.is_negative.ensures.in_range c.requires.0 c.requires.1 (cc))
