use Rattle.std.proofs.Common.{ap, refl}
use Rattle.exceptions.proofs.Values.{handed}
use Rattle.sums.proofs.Numbers.{none_word, some_word}
use Rattle.sums.proofs.sum.number_sum.Goals as goal

pub returns-then-m-eq0 : goal.returns-then-m-eq0
returns-then-m-eq0 g c =
    handed (ap g.W.Precision.number c.silent.ensures.0, c.silent.ensures.1)
    (none_word c.args.mode g.W.Precision.format _ _ _ _ _ _ _ _ _ _ _
    (rw c.is_negative.ensures.value c.operand_of-p.ensures.value) (rw c.is_negative-2.ensures.value c.operand_of-q.ensures.value)
    c.sum_digits-w.ensures _ c.if-m-eq0.true c.zero_sum.ensures)

pub returns : goal.returns
returns g c =
    handed (refl, c.settled.ensures)
    (some_word c.args.mode g.W.Precision.format _ _ _ _ _ _ _ _ _ _ _
    (rw c.is_negative.ensures.value c.operand_of-p.ensures.value) (rw c.is_negative-2.ensures.value c.operand_of-q.ensures.value)
    c.sum_digits-w.ensures _ _ _ _ c.if-m-eq0.false c.raised-s.ensures)
