use Rattle.step_sources.proofs.Writes.{double_Copying}
use Rattle.step_sources.proofs.step.sign_double.Goals as goal

pub returns : goal.returns
returns c = let a = c.args in λ sign. c.copy_of.ensures _ (double_Copying sign a.d.0 a.m.0)
