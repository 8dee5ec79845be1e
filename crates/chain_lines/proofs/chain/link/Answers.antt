use Rattle.chain_lines.specs.Chain.{link_text}
use Rattle.place_values.specs.Place.{word_at}
use mathlib.Core.List.{append_assoc}
use Rattle.text.proofs.Chain.{more, ended}
use Rattle.chain_lines.proofs.chain.link.Goals as goal

pub returns : goal.returns
unfolding link_text word_at
returns c = rw (← c.word.ensures) (ended _ _ _ (more _ _ _ _ (more _ _ _ _ (more _ _ _ _ (more _ _ _ _ (more _ _ _ _ c.add.ensures c.add_count.ensures) c.add-start.ensures) c.name.ensures) c.add-2.ensures) c.add_place.ensures) (simp append_assoc))
