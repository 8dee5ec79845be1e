use Rattle.report.specs.Line.{known_text}
use Rattle.text.proofs.Chain.{begun, more, ended}
use mathlib.Core.List.{append_assoc}
use Rattle.report.proofs.line.known.Goals as goal

pub returns : goal.returns
unfolding known_text
returns c = ended _ _ _ (more _ _ _ _ (more _ _ _ _ (more _ _ _ _ (more _ _ _ _ (begun _ c.new.ensures) c.add_count.ensures) c.add.ensures) c.add_count-2.ensures) c.add-2.ensures) (simp append_assoc)
