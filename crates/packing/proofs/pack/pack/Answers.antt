use Rattle.std.proofs.Common.{◌∙◌, ◌≤◌, ◌<◌, ◌+◌, ◌*◌, ◌^◌, arith}
use Rattle.rounding.proofs.Cutting.{cut_few}
use Rattle.packing.proofs.Settle.{spare_some, size_fits}
use Rattle.packing.proofs.pack.pack.Goals as goal

pub overflow_add-size : goal.overflow_add-size
overflow_add-size g c =
    let few : 62 ≤ 53 + c.args.shift = omega (arith, spare_some g.W.Precision.format, c.requires.1) in
    let fits : c.args.k * c.LEAST.result + c.cut-c.result.kept < 2 ^ 64 =
    size_fits g.W.Precision.format c.args.k _ _ (c.LEAST.ensures ∙ g.met.W.Precision.least_normal) c.requires.3
    (omega (arith, c.cut-c.ensures.kept_is, cut_few c.args.mode c.args.negative c.args.m 53 c.args.shift 62 c.requires.0 few))
    in omega arith
