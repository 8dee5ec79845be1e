use Rattle.std.proofs.Common.{◌∙◌, refl, mod-lt}
use Rattle.digits.proofs.Operands.{low_operand, normal_operand, low_zeros_lem, normal_digits}
use Rattle.floats.proofs.Units.{hid_pos}
use Rattle.rounding.proofs.Lifting.{moved_is}
use Rattle.digits.proofs.operand.operand_of.Goals as goal

pub returns-then-field-eq0-clause-value : goal.returns-then-field-eq0-clause-value
returns-then-field-eq0-clause-value g c =
    let p = g.met.W.Precision in
    let f = g.W.Precision.format in
    let field = rw (c.wide-n.ensures.value, c.SIGN.ensures, p.sign_weight, c.LEAST.ensures, p.least_normal) at c.if-field-eq0.true in
    rw (c.PLACES.ensures, p.places, moved_is _ _ c.lift-up.ensures)
    (low_operand f _ c.lift-up.result _ _ field
    (rw (c.wide-n.ensures.value, c.LEAST-2.ensures, p.least_normal) at c.lift-up.ensures)
    (rw (c.wide-n.ensures.value, c.LEAST-2.ensures, p.least_normal) refl) refl)

pub returns-then-field-eq0-clause-zeros : goal.returns-then-field-eq0-clause-zeros
returns-then-field-eq0-clause-zeros g c = low_zeros_lem g.W.Precision.format _ _ _ (c.LEAST-2.ensures ∙ g.met.W.Precision.least_normal) c.lift-up.ensures

pub returns-clause-value : goal.returns-clause-value
returns-clause-value g c =
    let p = g.met.W.Precision in
    let f = g.W.Precision.format in
    let field = rw (c.wide-n.ensures.value, c.SIGN.ensures, p.sign_weight, c.LEAST.ensures, p.least_normal) at c.if-field-eq0.false in
    rw (c.wide-n.ensures.value, c.SIGN.ensures, p.sign_weight, c.LEAST.ensures, c.LEAST-2.ensures, c.LEAST-3.ensures, p.least_normal, c.DIGITS-rise.ensures, p.digits, c.PLACES-2.ensures, p.places)
    (normal_operand f _ _ _ field c.requires.1 (normal_digits f _ (mod-lt _ (hid_pos f))) refl)
