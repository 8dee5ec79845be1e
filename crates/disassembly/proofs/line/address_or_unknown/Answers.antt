use mathlib.Core.Path.{refl}
use Rattle.text.proofs.Chain.{begun, more, ended}
use Rattle.disassembly.specs.Line.{address_text}
use Rattle.disassembly.proofs.line.address_or_unknown.Goals as goal

pub returns-then-known : goal.returns-then-known
unfolding address_text
returns-then-known c = rw c.if-known.true (ended _ _ _ (more _ _ _ _ (begun _ c.new.ensures) c.add_hex.ensures) refl)

pub returns : goal.returns
unfolding address_text
returns c = rw c.if-known.false (ended _ _ _ (more _ _ _ _ (begun _ c.new-2.ensures) c.add.ensures) refl)
