use lib.Ieee.{binary64}
use Rattle.step_sources.proofs.Writes.{arithmetic_Rule}
use Rattle.step_sources.proofs.step.arithmetic_double.Goals as goal

pub returns : goal.returns
returns c = let a = c.args in λ k kind. c.source_of.ensures _ _ _ (arithmetic_Rule binary64 k kind a.d.0 a.n.0 a.m.0) (c.of_double_operands-p.ensures kind) (c.of_double_operands-p.ensures kind)
