use Rattle.integers.proofs.Whole.{int_inf, int_nan, int_low, int_large, int_mid}
use Rattle.to_integers.proofs.to.double_to_integer.Goals as goal

pub returns-then-t-eq0 : goal.returns-then-t-eq0
returns-then-t-eq0 c = int_inf c.args.mode c.args.signed c.args.b _ _ c.if-field-eq2047.true c.if-t-eq0.true c.clamp_raised.ensures

pub returns-then-field-eq2047 : goal.returns-then-field-eq2047
returns-then-field-eq2047 c = int_nan c.args.mode c.args.signed c.args.b c.if-field-eq2047.true c.if-t-eq0.false

pub returns-then-field-eq0 : goal.returns-then-field-eq0
returns-then-field-eq0 c = int_low c.args.mode c.args.signed c.args.b _ _ _ _ c.if-field-eq0.true c.cut-c.ensures c.clamp_raised-then-field-eq0.ensures

pub returns-then-field-gt1054 : goal.returns-then-field-gt1054
returns-then-field-gt1054 c = int_large c.args.mode c.args.signed c.args.b _ _ c.if-field-eq0.false c.if-field-eq2047.false c.if-field-gt1054.true c.clamp_raised-then-field-gt1054.ensures

pub returns : goal.returns
returns c = int_mid c.args.mode c.args.signed c.args.b _ _ _ _ _ c.if-field-eq0.false c.if-field-eq2047.false c.if-field-gt1054.false c.least.ensures c.cut-c-2.ensures c.clamp_raised-2.ensures
