use mathlib.Core.List.{append_assoc}
use Rattle.text.proofs.Chain.{more, ended}
use Rattle.access_mnemonics.specs.LoadStore.{several_named}
use Rattle.mnemonics.specs.Parts.{named_text, precise_text}
use Rattle.access_mnemonics.proofs.load_store.several_named.Goals as goal

pub returns-then-bit : goal.returns-then-bit
unfolding several_named named_text precise_text
returns-then-bit c = rw (c.if-double.true, ← c.bit.ensures, c.if-bit.true) (ended _ _ _ (more _ _ _ _ c.several_name-start.ensures c.named.ensures) (simp append_assoc))

pub returns-then-double : goal.returns-then-double
unfolding several_named named_text precise_text
returns-then-double c = rw (c.if-double.true, ← c.bit.ensures, c.if-bit.false) (ended _ _ _ (more _ _ _ _ c.several_name-start.ensures c.precise.ensures) (simp append_assoc))

pub returns : goal.returns
unfolding several_named named_text precise_text
returns c = rw c.if-double.false (ended _ _ _ (more _ _ _ _ c.several_name-start.ensures c.precise-2.ensures) (simp append_assoc))
