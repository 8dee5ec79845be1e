use Rattle.std.proofs.Common.{arith}
use Rattle.integers.proofs.Laws.{from_integer_raises_lt}
use Rattle.integer_steps.proofs.Steps.{from_integer_lem}
use Rattle.integer_steps.proofs.integer.from_integer.Goals as goal

pub raise-requires : goal.raise-requires
raise-requires g c = rw c.from_integer-rounded.ensures.raised (from_integer_raises_lt _ _ _)

pub returns : goal.returns
returns g c =
    rw (c.raise.ensures, c.set.ensures, c.from_integer-rounded.ensures.word, c.from_integer-rounded.ensures.raised, c.control_of.ensures, c.get_single-integer.ensures)
    (from_integer_lem g.R.Word.Precision.format c.args.signed _ _ c.args.fpscr c.args.s.now (rw (← c.get_single-integer.ensures) (omega arith)))
