use mathlib.Core.List.{append_assoc}
use Rattle.text.proofs.Chain.{more, ended}
use Rattle.access_mnemonics.specs.LoadStore.{cores_text}
use Rattle.access_mnemonics.proofs.load_store.cores.Goals as goal

pub returns : goal.returns
unfolding cores_text
returns c = rw (← c.bits.ensures, ← c.bits-2.ensures) (ended _ _ _ (more _ _ _ _ (more _ _ _ _ c.core.ensures c.add.ensures) c.core-2.ensures) (simp append_assoc))
