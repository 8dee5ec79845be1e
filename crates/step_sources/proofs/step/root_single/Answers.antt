use lib.Ieee.{binary32}
use Rattle.step_sources.proofs.Words.{only}
use Rattle.step_sources.proofs.Writes.{root_Rule}
use Rattle.step_sources.proofs.step.root_single.Goals as goal

pub returns : goal.returns
returns c = let a = c.args in λ k. c.source_of.ensures _ _ _ (root_Rule binary32 k a.d.0 a.m.0) (only a.marks a.m.0) (only a.marks a.m.0)
