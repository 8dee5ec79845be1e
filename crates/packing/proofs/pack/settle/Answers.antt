use Rattle.std.proofs.Common.{◌∙◌, subst}
use Rattle.packing.proofs.Settle.{settle_low, settle_high}
use Rattle.packing.proofs.pack.settle.Goals as goal

pub returns-then-e-normal : goal.returns-then-e-normal
returns-then-e-normal g c =
    settle_low c.args.mode g.W.Precision.format c.args.negative c.args.m c.args.e _ _ _ _ _ c.requires.0
    (rw c.edge-normal.ensures at c.if-e-normal.true)
    (rw (← c.edge-normal.ensures, ← c.spare.ensures) c.least.ensures)
    c.pack.ensures

pub returns : goal.returns
returns g c =
    settle_high c.args.mode g.W.Precision.format c.args.negative c.args.m c.args.e _ _ _ _ c.requires.0
    (rw c.edge-normal.ensures at c.if-e-normal.false)
    c.requires.2
    (rw (← c.edge-normal.ensures, ← c.spare-2.ensures) c.pack-2.ensures)
