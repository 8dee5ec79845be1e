use Rattle.std.proofs.Common.{◌<◌, ap, arith, ◌∙◌, sym}
use Rattle.exceptions.proofs.Values.{handed}
use Rattle.sums.proofs.Special.{Nan-left, Nan-right, Inf-left, Inf-right, zero_left, zero_right}
use Rattle.sums.proofs.sum.special_sum.Goals as goal

pub returns-then-x-infinity : goal.returns-then-x-infinity
returns-then-x-infinity g c =
    handed (ap g.W.Precision.number c.silent.ensures.0 ∙ c.default_nan.ensures, c.silent.ensures.1)
    (Nan-left c.args.mode g.W.Precision.format _ _ (rw (c.size_of-x.ensures.value, c.infinity-infinity.ensures) at c.if-x-infinity.true))

pub returns-then-y-infinity : goal.returns-then-y-infinity
returns-then-y-infinity g c =
    handed (ap g.W.Precision.number c.silent-then-y-infinity.ensures.0 ∙ c.default_nan-then-y-infinity.ensures, c.silent-then-y-infinity.ensures.1)
    (Nan-right c.args.mode g.W.Precision.format _ _ (rw (c.size_of-y.ensures.value, c.infinity-infinity.ensures) at c.if-y-infinity.true))

pub returns-then-x-infinity-2 : goal.returns-then-x-infinity-2
returns-then-x-infinity-2 g c =
    let fin : c.size_of-y.result < c.infinity-infinity.result = omega arith in
    handed (ap g.W.Precision.number c.silent-then-x-infinity-2.ensures.0, c.silent-then-x-infinity-2.ensures.1)
    (Inf-left c.args.mode g.W.Precision.format _ _ c.size_of-x.ensures.in_range (cc)
    (rw (c.size_of-y.ensures.value, c.infinity-infinity.ensures) at fin))

pub returns-then-y-infinity-3 : goal.returns-then-y-infinity-3
returns-then-y-infinity-3 g c =
    let fin : c.size_of-x.result < c.infinity-infinity.result = omega arith in
    handed (ap g.W.Precision.number c.silent-then-y-infinity-3.ensures.0, c.silent-then-y-infinity-3.ensures.1)
    (Inf-right c.args.mode g.W.Precision.format _ _ c.size_of-y.ensures.in_range
    (rw (c.size_of-x.ensures.value, c.infinity-infinity.ensures) at fin) (cc))

pub returns-then-x-eq0 : goal.returns-then-x-eq0
returns-then-x-eq0 g c =
    let fin : c.size_of-y.result < c.infinity-infinity.result = omega arith in
    handed (ap g.W.Precision.number c.silent-then-x-eq0.ensures.0, c.silent-then-x-eq0.ensures.1)
    (zero_left c.args.mode g.W.Precision.format _ _ c.size_of-y.ensures.in_range (cc)
    (rw (c.size_of-y.ensures.value, c.infinity-infinity.ensures) at fin) (rw c.size_of-y.ensures.value at c.if-y-eq0.false))

pub returns : goal.returns
returns g c =
    let x_fin : c.size_of-x.result < c.infinity-infinity.result = omega arith in
    let y_fin : c.size_of-y.result < c.infinity-infinity.result = omega arith in
    handed (ap g.W.Precision.number c.silent-2.ensures.0, c.silent-2.ensures.1)
    (zero_right c.args.mode g.W.Precision.format _ _ c.size_of-x.ensures.in_range
    (rw (c.size_of-x.ensures.value, c.infinity-infinity.ensures) at x_fin) (rw c.size_of-x.ensures.value at c.if-x-eq0.false)
    (rw (c.size_of-y.ensures.value, c.infinity-infinity.ensures) at y_fin) c.requires)
