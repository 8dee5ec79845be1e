use Rattle.std.proofs.Common.{ap}
use Rattle.rounding.specs.declared.rounding.Rounding.{Rounding}
use Rattle.exceptions.proofs.Values.{handed}
use Rattle.sums.proofs.Special.{infs_unlike, infs_like}
use Rattle.sums.proofs.sum.infinities.Goals as goal

pub returns-then-unlike : goal.returns-then-unlike
returns-then-unlike g c = λ (mode : Rounding).
    handed c.no_result.ensures (infs_unlike mode g.W.Precision.format _ _ c.requires.0 c.requires.1 (cc))

pub returns : goal.returns
returns g c = λ (mode : Rounding).
    handed (ap g.W.Precision.number c.silent.ensures.0, c.silent.ensures.1)
    (infs_like mode g.W.Precision.format _ _ c.is_negative.ensures.in_range c.requires.0 c.requires.1 (cc))
