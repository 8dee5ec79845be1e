use mathlib.Core.Path.{subst}
use Prim.Native.Nat.{◌^◌}
use Rattle.rounding.specs.Rounding.{IsCut}
use Rattle.rounding.specs.declared.rounding.Rounding.{Rounding}
use Rattle.rounding.proofs.Cutting.{mode_nearest}
use Rattle.narrowing.proofs.narrow.shorten.Goals as goal

pub returns-then-control-eq0 : goal.returns-then-control-eq0
returns-then-control-eq0 c = let a = c.args in
    subst (λ (z : Rounding). IsCut z a.negative a.m (2 ^ 29) c.cut.result.kept c.cut.result.exact) (mode_nearest a.control c.if-control-eq0.true) c.cut.ensures
