use Rattle.chain_lines.specs.Place.{beyond_text}
use mathlib.Core.List.{append_assoc}
use Rattle.text.proofs.Chain.{begun, more, ended}
use Rattle.chain_lines.proofs.place.beyond.Goals as goal

pub returns : goal.returns
unfolding beyond_text
returns c = ended _ _ _ (more _ _ _ _ (more _ _ _ _ (more _ _ _ _ (more _ _ _ _ (more _ _ _ _ (begun _ c.new.ensures) c.add.ensures) c.add_decimal.ensures) c.add-2.ensures) c.add_count.ensures) c.add-3.ensures) (simp append_assoc)
