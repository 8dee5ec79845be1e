use Rattle.std.proofs.Common.{◌+◌, arith}
use Rattle.rounding.specs.declared.rounding.Rounding.TheVariants.{Nearest}
use Rattle.roots.proofs.RootNear.{near_is}
use Rattle.roots.proofs.RootDigits.{steps_exact}
use Rattle.square_roots.proofs.Steps.{step_is}
use Rattle.square_roots.proofs.word.nearest_root.Goals as goal

pub returns : goal.returns
returns c =
    let a = c.args in
    let x = step_is c.from.result _ c.from.ensures in
    let y = step_is c.from-2.result _ c.from-2.ensures in
    let is = near_is a.q a.rest c.from.result c.from-2.result c.requires.1 x.0 y.0 in
    record {
      kept_is = is;
      below = omega (arith, x.1, y.1);
      exact_is = steps_exact Nearest a.q a.rest (c.from.result + c.from-2.result) is;
    }
