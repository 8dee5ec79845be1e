use mathlib.Core.List.{append_assoc}
use Rattle.text.proofs.Chain.{more, ended}
use Rattle.transfer_mnemonics.specs.Transfer.{moved_text}
use Rattle.transfer_mnemonics.proofs.transfer.moved.Goals as goal

pub returns-then-bit : goal.returns-then-bit
unfolding moved_text
returns-then-bit c = rw (← c.bit.ensures, c.if-bit.true, ← c.bits-rt.ensures) (ended _ _ _ (more _ _ _ _ (more _ _ _ _ (more _ _ _ _ c.named.ensures c.core.ensures) c.add.ensures) c.register.ensures) (simp append_assoc))

pub returns : goal.returns
unfolding moved_text
returns c = rw (← c.bit.ensures, c.if-bit.false, ← c.bits-rt.ensures) (ended _ _ _ (more _ _ _ _ (more _ _ _ _ (more _ _ _ _ c.named-2.ensures c.register-2.ensures) c.add-2.ensures) c.core-2.ensures) (simp append_assoc))
