use mathlib.Core.List.{append_assoc}
use Rattle.text.proofs.Chain.{more, ended}
use Rattle.access_mnemonics.specs.LoadStore.{several_text}
use Rattle.access_mnemonics.proofs.load_store.several.Goals as goal

pub returns-then-bit : goal.returns-then-bit
unfolding several_text
returns-then-bit c = rw (← c.bits.ensures, ← c.bit.ensures, c.if-bit.true) (ended _ _ _ (more _ _ _ _ (more _ _ _ _ (more _ _ _ _ (more _ _ _ _ c.several_named.ensures c.core-base.ensures) c.add.ensures) c.registers.ensures) c.add-then-bit.ensures) (simp append_assoc))

pub returns : goal.returns
unfolding several_text
returns c = rw (← c.bits.ensures, ← c.bit.ensures, c.if-bit.false) (ended _ _ _ (more _ _ _ _ (more _ _ _ _ (more _ _ _ _ (more _ _ _ _ c.several_named.ensures c.core-base.ensures) c.add-2.ensures) c.registers-2.ensures) c.add-3.ensures) (simp append_assoc))
