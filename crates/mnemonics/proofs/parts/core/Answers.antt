use mathlib.Core.List.{append_assoc}
use Rattle.text.proofs.Chain.{more, ended}
use Rattle.mnemonics.specs.Parts.{core_text}
use Rattle.mnemonics.proofs.parts.core.Goals as goal

pub returns : goal.returns
unfolding core_text
returns c = ended _ _ _ (more _ _ _ _ c.push.ensures c.add_decimal.ensures) (simp append_assoc)
