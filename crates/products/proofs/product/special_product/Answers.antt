use Rattle.std.proofs.Common.{◌<◌, ap, arith, ◌∙◌}
use Rattle.rounding.specs.declared.rounding.Rounding.{Rounding}
use Rattle.exceptions.proofs.Values.{handed}
use Rattle.products.proofs.Special.{Nan-left, Nan-right, Inf-zero, zero-Inf, Inf-left, Inf-right, zeros}
use Rattle.products.proofs.product.special_product.Goals as goal

pub returns-then-x-infinity : goal.returns-then-x-infinity
returns-then-x-infinity g c = λ (mode : Rounding).
    handed (ap g.W.Precision.number c.silent.ensures.0 ∙ c.default_nan.ensures, c.silent.ensures.1)
    (Nan-left mode g.W.Precision.format _ _ (rw (c.size_of-x.ensures.value, c.infinity-infinity.ensures) at c.if-x-infinity.true))

pub returns-then-y-infinity : goal.returns-then-y-infinity
returns-then-y-infinity g c = λ (mode : Rounding).
    handed (ap g.W.Precision.number c.silent-then-y-infinity.ensures.0 ∙ c.default_nan-then-y-infinity.ensures, c.silent-then-y-infinity.ensures.1)
    (Nan-right mode g.W.Precision.format _ _ (rw (c.size_of-y.ensures.value, c.infinity-infinity.ensures) at c.if-y-infinity.true))

pub returns-then-y-eq0 : goal.returns-then-y-eq0
returns-then-y-eq0 g c = λ (mode : Rounding).
    handed c.no_result.ensures (Inf-zero mode g.W.Precision.format _ _ (cc) (cc))

pub returns-then-x-infinity-2 : goal.returns-then-x-infinity-2
returns-then-x-infinity-2 g c = λ (mode : Rounding).
    handed (ap g.W.Precision.number c.silent-then-x-infinity-2.ensures.0, c.silent-then-x-infinity-2.ensures.1)
    (Inf-left mode g.W.Precision.format _ _ _ _ (rw c.infinity-infinity.ensures at c.signed.ensures) (cc) (cc)
    (rw (c.size_of-y.ensures.value, c.infinity-infinity.ensures) at c.if-y-infinity.false) (rw c.size_of-y.ensures.value at c.if-y-eq0.false))

pub returns-then-x-eq0 : goal.returns-then-x-eq0
returns-then-x-eq0 g c = λ (mode : Rounding).
    handed c.no_result-then-x-eq0.ensures (zero-Inf mode g.W.Precision.format _ _ (cc) (cc))

pub returns-then-y-infinity-2 : goal.returns-then-y-infinity-2
returns-then-y-infinity-2 g c =
    let fin : c.size_of-x.result < c.infinity-infinity.result = omega arith in
    λ (mode : Rounding).
    handed (ap g.W.Precision.number c.silent-then-y-infinity-2.ensures.0, c.silent-then-y-infinity-2.ensures.1)
    (Inf-right mode g.W.Precision.format _ _ _ _ (rw c.infinity-infinity.ensures at c.signed-then-y-infinity-2.ensures) (cc)
    (rw (c.size_of-x.ensures.value, c.infinity-infinity.ensures) at fin) (rw c.size_of-x.ensures.value at c.if-x-eq0.false) (cc))

pub returns : goal.returns
returns g c =
    let x_fin : c.size_of-x.result < c.infinity-infinity.result = omega arith in
    let y_fin : c.size_of-y.result < c.infinity-infinity.result = omega arith in
    λ (mode : Rounding).
    handed (ap g.W.Precision.number c.silent-2.ensures.0, c.silent-2.ensures.1)
    (zeros mode g.W.Precision.format _ _ _ _ c.signed-2.ensures (cc)
    (rw (c.size_of-x.ensures.value, c.infinity-infinity.ensures) at x_fin) (rw (c.size_of-y.ensures.value, c.infinity-infinity.ensures) at y_fin) c.requires)
