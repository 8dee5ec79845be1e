use Rattle.std.proofs.Common.{Bool, true, false, cond, ap, ◌∙◌}
use Rattle.exceptions.specs.Exceptions.{inexact}
use Rattle.rounding.specs.Rounding.{rounding_of}
use Rattle.integers.proofs.Whole.{by_sign, raises_by_sign}
use Rattle.integers.proofs.Laws.{every_mode}
use Rattle.integers.proofs.integer.from_integer.Goals as goal

pub returns-then-negative : goal.returns-then-negative
returns-then-negative g c =
    let a = c.args in
    let f = g.W.Precision.format in
    let word = by_sign f a.signed a.w true c.if-negative.true (rounding_of a.control) _ (ap g.W.Precision.number c.raised.ensures.0 ∙ c.whole.ensures.bits_are) in
    record {
      word = word;
      every_mode = λ e mode. every_mode f _ mode a.signed a.w _ c.ranges.w.fits word e;
      raised = raises_by_sign f a.signed a.w true c.if-negative.true _ (c.raised.ensures.1 ∙ ap (λ (x : Bool). cond x 0 inexact) c.whole.ensures.exact_is);
    }

pub returns : goal.returns
returns g c =
    let a = c.args in
    let f = g.W.Precision.format in
    let word = by_sign f a.signed a.w false c.if-negative.false (rounding_of a.control) _ (ap g.W.Precision.number c.raised-2.ensures.0 ∙ c.whole-2.ensures.bits_are) in
    record {
      word = word;
      every_mode = λ e mode. every_mode f _ mode a.signed a.w _ c.ranges.w.fits word e;
      raised = raises_by_sign f a.signed a.w false c.if-negative.false _ (c.raised-2.ensures.1 ∙ ap (λ (x : Bool). cond x 0 inexact) c.whole-2.ensures.exact_is);
    }
