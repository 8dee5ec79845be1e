use Rattle.integers.proofs.Laws.{to_integer_raises_lt}
use Rattle.integer_steps.proofs.Steps.{round_lem}
use Rattle.integer_steps.proofs.integer.round.Goals as goal

pub raise-requires : goal.raise-requires
raise-requires g c = rw c.to_integer-x.ensures.1 (to_integer_raises_lt _ _ _ _)

pub returns : goal.returns
returns g c =
    rw (c.raise.ensures, c.set_single.ensures, c.to_integer-x.ensures.0, c.to_integer-x.ensures.1, c.rounding_of.ensures, c.control_of.ensures, c.get.ensures)
    (round_lem g.R.Word.Precision.format c.args.signed _ _ c.args.fpscr c.args.s.now)
