use Rattle.std.proofs.Common.{◌<◌, ap, arith, ◌∙◌}
use Rattle.rounding.specs.declared.rounding.Rounding.{Rounding}
use Rattle.exceptions.proofs.Values.{handed}
use Rattle.quotients.proofs.Special.{Nan-left, Nan-right, Inf-Inf, Inf-left, by_Inf, zero-zero, by_zero, of_zero}
use Rattle.quotients.proofs.quotient.special_quotient.Goals as goal

pub returns-then-x-infinity : goal.returns-then-x-infinity
returns-then-x-infinity g c = λ (mode : Rounding).
    handed (ap g.W.Precision.number c.silent.ensures.0 ∙ c.default_nan.ensures, c.silent.ensures.1)
    (Nan-left mode g.W.Precision.format _ _ (rw (c.size_of-x.ensures.value, c.infinity-infinity.ensures) at c.if-x-infinity.true))

pub returns-then-y-infinity : goal.returns-then-y-infinity
returns-then-y-infinity g c = λ (mode : Rounding).
    handed (ap g.W.Precision.number c.silent-then-y-infinity.ensures.0 ∙ c.default_nan-then-y-infinity.ensures, c.silent-then-y-infinity.ensures.1)
    (Nan-right mode g.W.Precision.format _ _ (rw (c.size_of-y.ensures.value, c.infinity-infinity.ensures) at c.if-y-infinity.true))

pub returns-then-y-infinity-2 : goal.returns-then-y-infinity-2
returns-then-y-infinity-2 g c = λ (mode : Rounding).
    handed c.no_result.ensures (Inf-Inf mode g.W.Precision.format _ _ (cc) (cc))

pub returns-then-x-infinity-2 : goal.returns-then-x-infinity-2
returns-then-x-infinity-2 g c =
    let fin : c.size_of-y.result < c.infinity-infinity.result = omega arith in
    λ (mode : Rounding).
    handed (ap g.W.Precision.number c.silent-then-x-infinity-2.ensures.0, c.silent-then-x-infinity-2.ensures.1)
    (Inf-left mode g.W.Precision.format _ _ _ _ (rw c.infinity-infinity.ensures at c.signed.ensures) (cc) (cc)
    (rw (c.size_of-y.ensures.value, c.infinity-infinity.ensures) at fin))

pub returns-then-y-infinity-3 : goal.returns-then-y-infinity-3
returns-then-y-infinity-3 g c =
    let fin : c.size_of-x.result < c.infinity-infinity.result = omega arith in
    λ (mode : Rounding).
    handed (ap g.W.Precision.number c.silent-then-y-infinity-3.ensures.0, c.silent-then-y-infinity-3.ensures.1)
    (by_Inf mode g.W.Precision.format _ _ _ _ c.signed-then-y-infinity-3.ensures (cc)
    (rw (c.size_of-x.ensures.value, c.infinity-infinity.ensures) at fin) (cc))

pub returns-then-x-eq0 : goal.returns-then-x-eq0
returns-then-x-eq0 g c = λ (mode : Rounding).
    handed c.no_result-then-x-eq0.ensures (zero-zero mode g.W.Precision.format _ _ (cc) (cc))

pub returns-then-y-eq0 : goal.returns-then-y-eq0
returns-then-y-eq0 g c =
    let fin : c.size_of-x.result < c.infinity-infinity.result = omega arith in
    λ (mode : Rounding).
    by_zero mode g.W.Precision.format _ _ _ _ (rw c.infinity-infinity.ensures at c.signed-then-y-eq0.ensures) (cc)
    (rw (c.size_of-x.ensures.value, c.infinity-infinity.ensures) at fin) (rw c.size_of-x.ensures.value at c.if-x-eq0.false) (cc)

pub returns : goal.returns
returns g c =
    let x_fin : c.size_of-x.result < c.infinity-infinity.result = omega arith in
    let y_fin : c.size_of-y.result < c.infinity-infinity.result = omega arith in
    λ (mode : Rounding).
    handed (ap g.W.Precision.number c.silent-2.ensures.0, c.silent-2.ensures.1)
    (of_zero mode g.W.Precision.format _ _ _ _ c.signed-2.ensures (cc)
    (rw (c.size_of-x.ensures.value, c.infinity-infinity.ensures) at x_fin) (rw (c.size_of-y.ensures.value, c.infinity-infinity.ensures) at y_fin) (rw c.size_of-y.ensures.value at c.if-y-eq0.false) c.requires)
