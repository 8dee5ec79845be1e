use Rattle.std.proofs.Common.{◌∙◌, ap, refl, arith}
use Rattle.script.specs.Step.{told}
use Rattle.script.specs.Text.{text_reading}
use Rattle.script.proofs.Lines.{within, lines_end, lines_wrong, lines_next}
use Rattle.script.proofs.text.take.Goals as goal

pub loop-at-init : goal.loop-at-init
unfolding text_reading
loop-at-init c = (omega arith, omega arith, refl)

pub returns-in-Err : goal.returns-in-Err
returns-in-Err c =
    lines_wrong c.args.text.now _ _ _ _ c.loop-at-test.true _ _ c.before-whole.ensures c.content.ensures _ _ c.take_line-step.ensures _ (ap told c.in-Err.is)
    ∙ c.loop-at.invariant.2

pub loop-at-preserved : goal.loop-at-preserved
loop-at-preserved c = (
  within c.args.text.now _ c.loop-at.line _ _ c.loop-at-test.true _ _ c.before-whole.ensures c.content.ensures _ _ c.take_line-step.ensures,
  omega arith,
  lines_next c.args.text.now _ _ _ _ c.loop-at-test.true _ _ c.before-whole.ensures c.content.ensures _ _ c.take_line-step.ensures _ (ap told c.in-Ok.is)
      ∙ c.loop-at.invariant.2,
)

pub returns : goal.returns
returns c = lines_end c.args.text.now _ _ _ _ c.loop-at-test.false ∙ c.loop-at.invariant.2
