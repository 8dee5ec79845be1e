use Rattle.root_estimates.proofs.Estimating.{upper_lt, lower-lt, lower_small}
use Rattle.roots.proofs.RootNear.{long_estimate}
use Rattle.std.proofs.Common.{◌*◌, ◌/◌, ◌%◌}
use Rattle.root_estimates.proofs.estimate.U64Rooted.estimate.Goals as goal

pub returns : goal.returns
returns c = let x = c.args.x in
    let n = c.args.n in
    let a = c.wrapping_sub_u64-a in
    let h = x / 0x40_0000 * n / 0x8_0000_0000 in
    let l = a.result % 0x1_0000_0000 * n / 0x1_0000_0000 in
    long_estimate x h l a.result c.wrapping_sub_u64-b.result c.wrapping_sub_u64-rest.result c.requires.0 (upper_lt c.args.x c.args.n c.requires.0 c.requires.1) (lower-lt c.wrapping_sub_u64-a.result c.args.n c.requires.1) (lower_small c.wrapping_sub_u64-a.result c.args.n c.requires.1)
    a.ensures.value c.wrapping_sub_u64-b.ensures.value c.wrapping_sub_u64-rest.ensures.value
