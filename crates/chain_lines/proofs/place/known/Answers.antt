use Rattle.chain_lines.specs.Place.{known_text}
use Rattle.place_lines.specs.Place.{named_text}
use mathlib.Core.List.{append_assoc}
use Rattle.text.proofs.Chain.{begun, more, ended}
use Rattle.chain_lines.proofs.place.known.Goals as goal

pub returns : goal.returns
unfolding known_text named_text
returns c = ended _ _ _ (more _ _ _ _ (more _ _ _ _ (more _ _ _ _ (more _ _ _ _ (begun _ c.new.ensures) c.add_place.ensures) c.add.ensures) c.add_decimal.ensures) c.add-2.ensures) (simp append_assoc)
