use mathlib.Core.List.{append_assoc}
use Rattle.text.proofs.Chain.{more, ended}
use Rattle.access_mnemonics.specs.LoadStore.{one_register_text}
use Rattle.access_mnemonics.proofs.load_store.one_register.Goals as goal

pub returns-then-bit : goal.returns-then-bit
unfolding one_register_text
returns-then-bit c = rw (← c.first.ensures.0, ← c.bits.ensures, ← c.bit.ensures, c.if-bit.true) (ended _ _ _ (more _ _ _ _ (more _ _ _ _ (more _ _ _ _ (more _ _ _ _ (more _ _ _ _ (more _ _ _ _ c.one_name.ensures c.register.ensures) c.add-start.ensures) c.core-base.ensures) c.add.ensures) c.add_decimal.ensures) c.add-then-bit.ensures) (simp append_assoc))

pub returns : goal.returns
unfolding one_register_text
returns c = rw (← c.first.ensures.0, ← c.bits.ensures, ← c.bit.ensures, c.if-bit.false) (ended _ _ _ (more _ _ _ _ (more _ _ _ _ (more _ _ _ _ (more _ _ _ _ (more _ _ _ _ (more _ _ _ _ c.one_name.ensures c.register.ensures) c.add-start.ensures) c.core-base.ensures) c.add-2.ensures) c.add_decimal-2.ensures) c.add-3.ensures) (simp append_assoc))
