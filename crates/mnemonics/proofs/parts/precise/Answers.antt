use mathlib.Core.List.{append_assoc}
use Rattle.text.proofs.Chain.{more, ended}
use Rattle.mnemonics.specs.Parts.{precise_text}
use Rattle.mnemonics.proofs.parts.precise.Goals as goal

pub returns-then-double : goal.returns-then-double
unfolding precise_text
returns-then-double c = rw c.if-double.true (ended _ _ _ (more _ _ _ _ c.add.ensures c.named.ensures) (simp append_assoc))

pub returns : goal.returns
unfolding precise_text
returns c = rw c.if-double.false (ended _ _ _ (more _ _ _ _ c.add-2.ensures c.named-2.ensures) (simp append_assoc))
