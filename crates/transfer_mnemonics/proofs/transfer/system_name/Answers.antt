use mathlib.Core.List.{append_assoc}
use borrow.Author.Tests.{ne_eqb}
use Rattle.text.proofs.Chain.{more, ended}
use Rattle.transfer_mnemonics.specs.Transfer.{system_name}
use Rattle.transfer_mnemonics.proofs.transfer.system_name.Goals as goal

pub returns-then-n-eq0 : goal.returns-then-n-eq0
unfolding system_name
returns-then-n-eq0 c = rw c.if-n-eq0.true c.add.ensures

pub returns-then-n-eq1 : goal.returns-then-n-eq1
unfolding system_name
returns-then-n-eq1 c = rw c.if-n-eq1.true c.add-then-n-eq1.ensures

pub returns-then-n-eq8 : goal.returns-then-n-eq8
unfolding system_name
returns-then-n-eq8 c = rw c.if-n-eq8.true c.add-then-n-eq8.ensures

pub returns : goal.returns
unfolding system_name
returns c = rw (ne_eqb _ _ c.if-n-eq0.false, ne_eqb _ _ c.if-n-eq1.false, ne_eqb _ _ c.if-n-eq8.false) (ended _ _ _ (more _ _ _ _ c.add-2.ensures c.add_decimal.ensures) (simp append_assoc))
