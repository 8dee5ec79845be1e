use Rattle.place_lines.specs.Place.{change_text}
use Rattle.text.proofs.Chain.{begun, more, ended}
use mathlib.Core.List.{append_assoc}
use Rattle.place_lines.proofs.place.changed.Goals as goal

pub returns : goal.returns
unfolding change_text
returns c = ended _ _ _ (more _ _ _ _ (more _ _ _ _ (more _ _ _ _ (more _ _ _ _ (more _ _ _ _ (more _ _ _ _ (begun _ c.new.ensures) c.add.ensures) c.named.ensures) c.add-2.ensures) c.valued-from.ensures) c.add-3.ensures) c.valued.ensures) (simp append_assoc)
