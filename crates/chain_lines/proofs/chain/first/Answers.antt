use Rattle.chain_lines.specs.Chain.{first_text}
use mathlib.Core.List.{append_assoc}
use Rattle.text.proofs.Chain.{begun, more, ended}
use Rattle.chain_lines.proofs.chain.first.Goals as goal

pub returns : goal.returns
unfolding first_text
returns c = ended _ _ _ (more _ _ _ _ (more _ _ _ _ (begun _ c.new.ensures) c.add_place.ensures) c.add.ensures) (simp append_assoc)
