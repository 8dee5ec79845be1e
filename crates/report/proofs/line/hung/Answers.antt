use Rattle.report.specs.Line.{hung_text}
use Rattle.text.proofs.Chain.{more, ended}
use mathlib.Core.List.{append_assoc}
use Rattle.report.proofs.line.hung.Goals as goal

pub returns : goal.returns
unfolding hung_text
returns c = ended _ _ _ (more _ _ _ _ (more _ _ _ _ (more _ _ _ _ (more _ _ _ _ c.add.ensures c.add_place.ensures) c.add-2.ensures) c.add_decimal.ensures) c.add-3.ensures) (simp append_assoc)
