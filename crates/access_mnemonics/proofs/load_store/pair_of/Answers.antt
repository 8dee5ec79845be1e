use mathlib.Core.List.{append_assoc}
use Rattle.text.proofs.Chain.{more, ended}
use Rattle.access_mnemonics.specs.LoadStore.{pair_of}
use Rattle.access_mnemonics.proofs.load_store.pair_of.Goals as goal

pub returns-then-double : goal.returns-then-double
unfolding pair_of
returns-then-double c = rw (c.if-double.true, ← c.m_of.ensures.0) c.register.ensures

pub returns : goal.returns
unfolding pair_of
returns c = rw (c.if-double.false, ← c.m_of-m.ensures.0) (ended _ _ _ (more _ _ _ _ (more _ _ _ _ (more _ _ _ _ (more _ _ _ _ c.add.ensures c.register-2.ensures) c.add-2.ensures) c.register-3.ensures) c.add-3.ensures) (simp append_assoc))
