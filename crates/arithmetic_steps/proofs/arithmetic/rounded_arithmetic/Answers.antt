use Rattle.arithmetic_steps.proofs.Steps.{rounded_steps}
use Rattle.machine.specs.Place.{control_of}
use Rattle.quiet.proofs.Bound.{exceptions_lt}
use Rattle.arithmetic_steps.proofs.arithmetic.rounded_arithmetic.Goals as goal

pub raise-requires : goal.raise-requires
raise-requires g c = rw c.directed-x.ensures.1 (exceptions_lt _ _ _ _ _ _)

pub returns : goal.returns
returns g c =
    rw (c.raise.ensures, c.set_within.ensures, c.directed-x.ensures.0, c.directed-x.ensures.1, c.control_of.ensures, c.get_within-a.ensures, c.get_within-b.ensures, c.get_within-old.ensures)
    (rounded_steps g.R.Word.Precision.format (control_of c.args.fpscr) c.args.kind _ _ _ c.args.fpscr c.args.s.now)
