use lib.Ieee.{binary32}
use Rattle.widths.proofs.Narrow.{narrow_inf, narrow_nan, narrow_low, narrow_mid}
use Rattle.narrowing.proofs.narrow.narrowed.Goals as goal

pub returns-then-t-eq0 : goal.returns-then-t-eq0
returns-then-t-eq0 c = narrow_inf c.args.mode binary32 c.args.b _ c.if-field-eq2047.true c.if-t-eq0.true c.sign.ensures

pub returns-then-field-eq2047 : goal.returns-then-field-eq2047
returns-then-field-eq2047 c = narrow_nan c.args.mode binary32 c.args.b c.if-field-eq2047.true c.if-t-eq0.false

pub returns-then-field-eq0 : goal.returns-then-field-eq0
returns-then-field-eq0 c = narrow_low c.args.mode binary32 c.args.b _ _ _ _ c.if-field-eq0.true c.settle.ensures

pub returns : goal.returns
returns c = narrow_mid c.args.mode binary32 c.args.b _ _ _ _ c.if-field-eq0.false c.if-field-eq2047.false c.settle-2.ensures
