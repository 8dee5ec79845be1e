use mathlib.Core.List.{append_assoc}
use Rattle.text.proofs.Chain.{more, ended}
use Rattle.access_mnemonics.specs.LoadStore.{pair_text}
use Rattle.access_mnemonics.proofs.load_store.pair.Goals as goal

pub returns-then-bit : goal.returns-then-bit
unfolding pair_text
returns-then-bit c = rw (← c.bit.ensures, c.if-bit.true) (ended _ _ _ (more _ _ _ _ (more _ _ _ _ (more _ _ _ _ c.to_cores.ensures c.cores.ensures) c.add.ensures) c.pair_of.ensures) (simp append_assoc))

pub returns : goal.returns
unfolding pair_text
returns c = rw (← c.bit.ensures, c.if-bit.false) (ended _ _ _ (more _ _ _ _ (more _ _ _ _ (more _ _ _ _ c.from_cores.ensures c.pair_of-2.ensures) c.add-2.ensures) c.cores-2.ensures) (simp append_assoc))
