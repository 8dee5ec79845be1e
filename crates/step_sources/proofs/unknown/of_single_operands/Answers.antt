use Prim.Native.Nat.{◌%◌}
use lib.Ieee.{binary32}
use Rattle.step_sources.proofs.Words.{operand_on, operand_first, Tells-single, only}
use Rattle.step_sources.proofs.unknown.of_single_operands.Goals as goal

pub returns-then-is_known : goal.returns-then-is_known
returns-then-is_known c = let a = c.args in operand_on a.marks binary32 a.n.0 _ (Tells-single a.marks a.n.0 _ c.is_known.ensures) _ c.if-is_known.true a.d.0 a.m.0 c.of_singles.ensures

pub returns : goal.returns
returns c = let a = c.args in operand_first a.marks binary32 a.n.0 _ (Tells-single a.marks a.n.0 _ c.is_known.ensures) (a.n.0 % 32) c.if-is_known.false a.d.0 a.m.0 (only a.marks a.n.0)
