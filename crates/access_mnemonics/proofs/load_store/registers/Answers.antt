use mathlib.Core.List.{append_assoc}
use borrow.Author.Tests.{ne_eqb}
use Rattle.text.proofs.Chain.{more, ended}
use Rattle.access_mnemonics.specs.LoadStore.{registers_text}
use Rattle.access_mnemonics.proofs.load_store.registers.Goals as goal

pub returns-then-count-eq1 : goal.returns-then-count-eq1
unfolding registers_text
returns-then-count-eq1 c = rw (← c.count_of-count.ensures.0, c.if-count-eq1.true, ← c.first-n.ensures.0) c.register.ensures

pub returns : goal.returns
unfolding registers_text
returns c = rw (← c.count_of-count.ensures.0, ne_eqb _ _ c.if-count-eq1.false, ← c.first-n.ensures.0) (ended _ _ _ (more _ _ _ _ (more _ _ _ _ c.register-2.ensures c.add.ensures) c.register-3.ensures) (simp append_assoc))
