use Rattle.std.proofs.Common.{ℕ, ◌≡◌, ◌<◌, ◌∙◌, ap, arith, mod-lt}
use native.Mathlib.Nat.{mul-div_cancel}
use Rattle.floats.proofs.Units.{hid_pos}
use Rattle.roots.proofs.Sqrt.{sqrt_of_zero, sqrt_negative, sqrt_of_inf, root_low, root_mid, normal_digits, handed_on}
use Rattle.roots.proofs.root.root.Goals as goal

some : (x : ℕ) → (x ≡ 0 → ⊥) → 0 < x
some x h = omega arith

pub returns-then-w-SIGN-eq0 : goal.returns-then-w-SIGN-eq0
returns-then-w-SIGN-eq0 g c =
    let p = g.met.W.Precision in
    handed_on
    (sqrt_of_zero c.args.mode g.W.Precision.format _ (rw c.wide-w.ensures.value at c.wide-w.ensures.in_range) (rw (c.wide-w.ensures.value, c.SIGN-2.ensures, p.sign_weight) at c.if-w-SIGN-eq0.true))
    (ap g.W.Precision.number c.silent.ensures.0, c.silent.ensures.1)

pub returns-then-w-SIGN : goal.returns-then-w-SIGN
returns-then-w-SIGN g c =
    let p = g.met.W.Precision in
    handed_on
    (sqrt_negative c.args.mode g.W.Precision.format _ c.requires (some _ (rw (c.wide-w.ensures.value, c.SIGN-2.ensures, p.sign_weight) at c.if-w-SIGN-eq0.false))
    (rw (c.wide-w.ensures.value, c.SIGN-3.ensures, p.sign_weight) at c.if-w-SIGN.true))
    c.no_result.ensures

pub returns-then-field-infinity : goal.returns-then-field-infinity
returns-then-field-infinity g c =
    let p = g.met.W.Precision in
    let f = g.W.Precision.format in
    handed_on
    (sqrt_of_inf c.args.mode f _ c.requires (rw (c.wide-w.ensures.value, c.SIGN-3.ensures, p.sign_weight) at c.if-w-SIGN.false)
    ((rw (c.wide-w.ensures.value, c.SIGN.ensures, c.LEAST.ensures, c.LEAST-3.ensures, c.infinity.ensures, p.sign_weight, p.least_normal) at c.if-field-infinity.true) ∙ mul-div_cancel _ (hid_pos f)))
    (ap g.W.Precision.number c.silent-then-field-infinity.ensures.0 ∙ c.of_wide.ensures ∙ c.infinity-then-field-infinity.ensures, c.silent-then-field-infinity.ensures.1)

pub returns-then-field-eq0 : goal.returns-then-field-eq0
returns-then-field-eq0 g c =
    let p = g.met.W.Precision in
    let r = rw (c.wide-w.ensures.value, c.LEAST-2.ensures, p.least_normal, c.start.ensures, c.DIGITS.ensures, p.digits) at c.rooted-r.ensures in
    handed_on
    (root_low c.args.mode g.W.Precision.format _ c.lift-up.result _ _ (rw (c.wide-w.ensures.value, c.SIGN-3.ensures, p.sign_weight) at c.if-w-SIGN.false)
    (rw (c.wide-w.ensures.value, c.SIGN.ensures, c.LEAST.ensures, p.sign_weight, p.least_normal) at c.if-field-eq0.true)
    (rw (c.wide-w.ensures.value, c.LEAST-2.ensures, p.least_normal) at c.lift-up.ensures)
    (r.kept_is, r.exact_is))
    (rw c.start.ensures at c.placed.ensures)

pub returns : goal.returns
returns g c =
    let p = g.met.W.Precision in
    let f = g.W.Precision.format in
    let field = rw (c.wide-w.ensures.value, c.SIGN.ensures, c.LEAST.ensures, p.sign_weight, p.least_normal) at c.if-field-eq0.false in
    let finite = rw (c.wide-w.ensures.value, c.SIGN.ensures, c.LEAST.ensures, c.LEAST-3.ensures, c.infinity.ensures, p.sign_weight, p.least_normal, mul-div_cancel _ (hid_pos f)) at c.if-field-infinity.false in
    let r = rw (c.wide-w.ensures.value, c.SIGN.ensures, c.LEAST.ensures, c.LEAST-2.ensures, c.LEAST-4.ensures, c.start-2.ensures, c.DIGITS-rise.ensures, c.DIGITS-2.ensures, p.sign_weight, p.least_normal, p.digits) at c.rooted-r-2.ensures in
    let placed = rw (c.wide-w.ensures.value, c.SIGN.ensures, c.LEAST.ensures, c.start-2.ensures, c.DIGITS-rise.ensures, p.sign_weight, p.least_normal, p.digits) at c.placed-2.ensures in
    handed_on
    (root_mid c.args.mode f _ _ _ _ (rw (c.wide-w.ensures.value, c.SIGN-3.ensures, p.sign_weight) at c.if-w-SIGN.false) field finite (normal_digits f _ (mod-lt _ (hid_pos f))) (r.kept_is, r.exact_is))
    placed
