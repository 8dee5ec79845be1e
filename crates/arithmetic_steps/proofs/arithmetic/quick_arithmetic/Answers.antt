use Rattle.arithmetic_steps.proofs.Steps.{quick_steps}
use Rattle.machine.specs.Place.{control_of}
use Rattle.numbers.proofs.Applying.{not_taken}
use mathlib.Core.Path.{refl}
use Rattle.arithmetic_steps.proofs.arithmetic.quick_arithmetic.Goals as goal

pub returns-in-Some : goal.returns-in-Some
returns-in-Some g c = (
  λ h.
      let a = c.args in
      let left = c.is_rounded.ensures c.if-is_rounded.false in
      let k = rw (c.get_within-a.ensures, c.get_within-b.ensures, c.get_within-old.ensures) at (c.in-Some.ensures (control_of a.fpscr) left.0) in
      rw c.set_within.ensures (quick_steps g.R.Word.Precision.format (control_of a.fpscr) a.kind _ _ _ a.fpscr a.s.now _ left.1 k),
  λ h. not_taken h refl,
)
