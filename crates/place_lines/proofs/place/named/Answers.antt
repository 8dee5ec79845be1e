use Rattle.place_lines.specs.Place.{named_text}
use Rattle.text.proofs.Chain.{more, ended}
use mathlib.Core.List.{append_assoc}
use Rattle.place_lines.proofs.place.named.Goals as goal

pub returns : goal.returns
unfolding named_text
returns c = ended _ _ _ (more _ _ _ _ (more _ _ _ _ (more _ _ _ _ c.add_place.ensures c.add.ensures) c.add_decimal.ensures) c.add-2.ensures) (simp append_assoc)
