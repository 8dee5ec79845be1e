use mathlib.Core.List.{append_assoc}
use borrow.Author.Tests.{ne_eqb}
use Rattle.text.proofs.Chain.{more, ended}
use Rattle.transfer_mnemonics.specs.Transfer.{system_text}
use Rattle.transfer_mnemonics.proofs.transfer.system.Goals as goal

pub returns-then-n-eq1 : goal.returns-then-n-eq1
unfolding system_text
returns-then-n-eq1 c = rw (← c.bit.ensures, c.if-bit.true, ← c.bits-rt.ensures, c.if-rt-eq15.true, ← c.bits-n.ensures, c.if-n-eq1.true) (ended _ _ _ (more _ _ _ _ c.add.ensures c.condition.ensures) (simp append_assoc))

pub returns-then-rt-eq15 : goal.returns-then-rt-eq15
unfolding system_text
returns-then-rt-eq15 c = rw (← c.bit.ensures, c.if-bit.true, ← c.bits-rt.ensures, c.if-rt-eq15.true, ← c.bits-n.ensures, ne_eqb _ _ c.if-n-eq1.false) (ended _ _ _ (more _ _ _ _ (more _ _ _ _ (more _ _ _ _ c.named.ensures (rw c.if-rt-eq15.true at c.core.ensures)) c.add-then-rt-eq15.ensures) c.system_name.ensures) (simp append_assoc))

pub returns-then-bit : goal.returns-then-bit
unfolding system_text
returns-then-bit c = rw (← c.bit.ensures, c.if-bit.true, ← c.bits-rt.ensures, ne_eqb _ _ c.if-rt-eq15.false, ← c.bits-n.ensures) (ended _ _ _ (more _ _ _ _ (more _ _ _ _ (more _ _ _ _ c.named-then-bit.ensures c.core-then-bit.ensures) c.add-then-bit.ensures) c.system_name-then-bit.ensures) (simp append_assoc))

pub returns : goal.returns
unfolding system_text
returns c = rw (← c.bit.ensures, c.if-bit.false, ← c.bits-rt.ensures, ← c.bits-n.ensures) (ended _ _ _ (more _ _ _ _ (more _ _ _ _ (more _ _ _ _ c.named-2.ensures c.system_name-2.ensures) c.add-2.ensures) c.core-2.ensures) (simp append_assoc))
