use mathlib.Core.List.{append_assoc}
use Rattle.text.proofs.Chain.{more, ended}
use Rattle.processing_mnemonics.specs.Data.{between_text}
use Rattle.processing_mnemonics.proofs.data.between.Goals as goal

pub returns-then-double : goal.returns-then-double
unfolding between_text
returns-then-double c = rw (c.if-double.true, ← c.d_of.ensures.0, ← c.m_of.ensures.0) (ended _ _ _ (more _ _ _ _ (more _ _ _ _ (more _ _ _ _ c.named.ensures c.register.ensures) c.add.ensures) c.register-then-double.ensures) (simp append_assoc))

pub returns : goal.returns
unfolding between_text
returns c = rw (c.if-double.false, ← c.d_of-2.ensures.0, ← c.m_of-2.ensures.0) (ended _ _ _ (more _ _ _ _ (more _ _ _ _ (more _ _ _ _ c.named-2.ensures c.register-2.ensures) c.add-2.ensures) c.register-3.ensures) (simp append_assoc))
