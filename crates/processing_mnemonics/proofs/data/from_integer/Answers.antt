use mathlib.Core.List.{append_assoc}
use Rattle.text.proofs.Chain.{more, ended}
use Rattle.processing_mnemonics.specs.Data.{from_integer_text}
use Rattle.processing_mnemonics.proofs.data.from_integer.Goals as goal

pub returns : goal.returns
unfolding from_integer_text
returns c = rw (← c.m_of.ensures.0) (ended _ _ _ (more _ _ _ _ (more _ _ _ _ c.one.ensures c.add.ensures) c.register.ensures) (simp append_assoc))
