use Rattle.quiet.proofs.Native.{taken}
use Rattle.quiet.proofs.quick.quick.Goals as goal

pub returns-then-is_product : goal.returns-then-is_product
returns-then-is_product g c control z =
    let r = c.in_ok-w.ensures.in_range in
    taken g.W.Precision.format control c.args.kind _ _ _ _ r.0 r.1 r.2 z c.in_ok-w.ensures.value (c.is_within.ensures c.if-is_within.true)
    (rw c.requires at (c.is_product.ensures c.if-is_product.true))
