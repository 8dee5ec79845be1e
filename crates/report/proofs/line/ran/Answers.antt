use Rattle.report.specs.Line.{ran_text}
use Rattle.text.proofs.Chain.{begun, more, ended}
use mathlib.Core.List.{append_assoc}
use Rattle.report.proofs.line.ran.Goals as goal

pub returns : goal.returns
unfolding ran_text
returns c = rw (← c.saturating_sub.ensures) (ended _ _ _ (more _ _ _ _ (more _ _ _ _ (more _ _ _ _ (more _ _ _ _ (more _ _ _ _ (more _ _ _ _ (more _ _ _ _ (begun _ c.new.ensures) c.add.ensures) c.add_count.ensures) c.add-2.ensures) c.add_count-2.ensures) c.add-3.ensures) c.add_count-3.ensures) c.add-4.ensures) (simp append_assoc))
