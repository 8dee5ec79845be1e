use lib.Ieee.{binary64}
use Rattle.step_sources.proofs.Words.{operand_on}
use Rattle.step_sources.proofs.unknown.of_double_operands.Goals as goal

pub returns-then-known : goal.returns-then-known
returns-then-known c = let a = c.args in operand_on a.marks binary64 a.n.0 _ c.known.ensures _ c.if-known.true a.d.0 a.m.0 c.of_doubles.ensures
