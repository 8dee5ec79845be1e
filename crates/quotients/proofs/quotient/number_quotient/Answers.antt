use Rattle.std.proofs.Common.{refl}
use Rattle.exceptions.proofs.Values.{handed}
use Rattle.quotients.proofs.Numbers.{folded_quotient}
use Rattle.quotients.proofs.quotient.number_quotient.Goals as goal

pub returns : goal.returns
returns g c =
    handed (refl, c.settled.ensures)
    (folded_quotient c.args.mode g.W.Precision.format _ _ _ _ _ _ _ _ c.BELOW.result _ _ _ _ _ _ c.operand_of-p.ensures.value c.operand_of-q.ensures.value
    (rw c.BELOW.ensures g.met.W.Divided.below) (rw c.BELOW.ensures c.quotient_digits-m.ensures.0) (cc) c.raised-s.ensures)
