use mathlib.Core.Path.{subst}
use Rattle.processing.specs.Data.{data_tree, Handled}
use Rattle.processing.specs.declared.Processed.{Processed}
use Rattle.run_word.proofs.Scalars.{goes_on}
use Rattle.run_word.proofs.Words.{data_undefined}
use Rattle.run_word.proofs.data.steps.Goals as goal

pub returns-in-Done : goal.returns-in-Done
returns-in-Done c = let a = c.args in goes_on a.op a.s.now a.r.now a.x _ _ c.done.result c.done.ensures (subst (λ (z : Processed). Handled (λ thumb. data_tree thumb a.op) a.op a.s.now a.x.fpscr c.process-after.new.s z) c.in-Done.is c.process-after.ensures)

pub returns-in-Undefined : goal.returns-in-Undefined
returns-in-Undefined c = let a = c.args in λ v. data_undefined a.op a.s.now a.r.now a.x c.process-after.new.s c.process-after.result c.process-after.ensures v _ c.in-Undefined.is c.current_pc-pc.ensures
