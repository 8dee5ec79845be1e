use Rattle.numbers.proofs.Applying.{worked, native}
use Rattle.numbers.proofs.arithmetic.native.Goals as goal

pub returns-else-differs-clause-value : goal.returns-else-differs-clause-value
returns-else-differs-clause-value g c =
    let f = g.W.Precision.format in
    let x = c.operands_of.ensures in
    native f c.args.kind _ _ _ _ _ c.bits.ensures (worked f c.args.kind _ _ _ _ _ _ _ c.apply-x.ensures x.n x.m x.d)
