use mathlib.Core.List.{append_assoc}
use Rattle.text.proofs.Chain.{more, ended}
use Rattle.mnemonics.specs.Parts.{named_text}
use Rattle.mnemonics.proofs.parts.named.Goals as goal

pub returns : goal.returns
unfolding named_text
returns c = ended _ _ _ (more _ _ _ _ (more _ _ _ _ c.add.ensures c.condition.ensures) c.add-2.ensures) (simp append_assoc)
