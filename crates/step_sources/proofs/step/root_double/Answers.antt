use lib.Ieee.{binary64}
use Rattle.step_sources.proofs.Writes.{root_Rule}
use Rattle.step_sources.proofs.step.root_double.Goals as goal

pub returns : goal.returns
returns c = let a = c.args in λ k. c.source_of.ensures _ _ _ (root_Rule binary64 k a.d.0 a.m.0) c.of_double-p.ensures c.of_double-p.ensures
