use mathlib.Core.List.{append_assoc}
use Rattle.text.proofs.Chain.{more, ended}
use Rattle.mnemonics.specs.Parts.{reg_text}
use Rattle.mnemonics.proofs.parts.register.Goals as goal

pub returns-then-double : goal.returns-then-double
unfolding reg_text
returns-then-double c = rw c.if-double.true (ended _ _ _ (more _ _ _ _ c.push.ensures c.add_decimal.ensures) (simp append_assoc))

pub returns : goal.returns
unfolding reg_text
returns c = rw c.if-double.false (ended _ _ _ (more _ _ _ _ c.push-2.ensures c.add_decimal-2.ensures) (simp append_assoc))
