use mathlib.Core.Path.{◌∙◌}
use Rattle.widths.proofs.Widen.{wide_inf, wide_normal, wide_zero, wide_low, widen_number_lem, widen_nan}
use native.Mathlib.Omega.{arith}
use Rattle.widths.proofs.convert.widened.Goals as goal

pub returns-then-size-eq2139095040 : goal.returns-then-size-eq2139095040
returns-then-size-eq2139095040 c = wide_inf c.args.b c.ranges.b.fits (omega arith) (omega arith) ∙ widen_number_lem _ _ (omega arith)

pub returns-then-size-ge2139095040 : goal.returns-then-size-ge2139095040
returns-then-size-ge2139095040 c = widen_nan _ _ _ (omega arith) c.widened_nan.ensures

pub returns-then-size-ge8388608 : goal.returns-then-size-ge8388608
returns-then-size-ge8388608 c = wide_normal c.args.b c.ranges.b.fits c.if-size-ge8388608.true c.if-size-ge2139095040.false ∙ widen_number_lem _ _ (omega arith)

pub returns-then-size-eq0 : goal.returns-then-size-eq0
returns-then-size-eq0 c = wide_zero c.args.b c.ranges.b.fits (omega arith) (omega arith) ∙ widen_number_lem _ _ (omega arith)

pub returns : goal.returns
returns c = wide_low c.args.b c.lift-up.result c.ranges.b.fits (omega arith) c.lift-up.ensures ∙ widen_number_lem _ _ (omega arith)
