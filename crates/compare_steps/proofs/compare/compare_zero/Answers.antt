use Rattle.comparisons.proofs.Flags.{flags_lt, compare_raises}
use Rattle.compare_steps.proofs.Steps.{compared_zero}
use Rattle.compare_steps.proofs.compare.compare_zero.Goals as goal

pub with_flags-requires : goal.with_flags-requires
with_flags-requires g c = rw c.compare-c.ensures.0 (flags_lt _ _ _)

pub raise-requires : goal.raise-requires
raise-requires g c = rw c.compare-c.ensures.1 (compare_raises _ _ _ _)

pub returns : goal.returns
returns g c = rw (c.raise.ensures, c.with_flags.ensures, c.compare-c.ensures.0, c.compare-c.ensures.1, c.get.ensures, c.of_wide.ensures) (compared_zero g.R.Word.Precision.format c.args.any _ c.args.fpscr c.args.s.now)
