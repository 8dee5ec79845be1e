use Rattle.std.proofs.Common.{arith}
use Rattle.roots.proofs.RootNear.{directed_is, down_exact}
use Rattle.square_roots.proofs.Steps.{step_is}
use Rattle.square_roots.proofs.word.directed_root.Goals as goal

pub returns : goal.returns
returns c =
    let a = c.args in
    let x = step_is c.from.result _ c.from.ensures in
    let y = step_is c.from-2.result _ c.from-2.ensures in
    let z = step_is c.from-3.result _ c.from-3.ensures in
    record {
      kept_is = directed_is a.q a.rest a.up c.from.result c.from-2.result c.from-3.result c.requires.1 x.0 y.0 z.0;
      below = omega (arith, x.1, y.1, z.1);
      exact_is = down_exact a.q a.rest c.from.result c.from-2.result c.requires.1 x.0 y.0;
    }
