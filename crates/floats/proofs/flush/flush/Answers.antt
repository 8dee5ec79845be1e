use Rattle.std.proofs.Common.{sym, ◌∙◌}
use Rattle.floats.proofs.Flushing.{flush_off, flush_small, flush_large}
use Rattle.floats.proofs.flush.flush.Goals as goal

pub returns-then-control-eq0 : goal.returns-then-control-eq0
returns-then-control-eq0 g c = flush_off g.W.Precision.format _ _ c.if-control-eq0.true

pub returns-then-b-SIGN : goal.returns-then-b-SIGN
returns-then-b-SIGN g c =
    let p = g.met.W.Precision in
    let small = rw (c.SIGN.ensures, c.LEAST.ensures, p.sign_weight, p.least_normal, c.wide-b.ensures.value) at c.if-b-SIGN.true in
    rw (c.of_wide.ensures, c.SIGN-then-b-SIGN.ensures, c.SIGN-then-b-SIGN-2.ensures, p.sign_weight, c.wide-b.ensures.value)
    (flush_small g.W.Precision.format _ _ c.if-control-eq0.false small)

pub returns : goal.returns
returns g c =
    let p = g.met.W.Precision in
    let large = rw (c.SIGN.ensures, c.LEAST.ensures, p.sign_weight, p.least_normal, c.wide-b.ensures.value) at c.if-b-SIGN.false in
    flush_large g.W.Precision.format _ _ large
