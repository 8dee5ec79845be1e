use Rattle.chain_lines.specs.Chain.{separator_text}
use borrow.Author.Tests.{ne_eqb}
use mathlib.Core.Path.{refl}
use Rattle.text.proofs.Chain.{begun, more, ended}
use Rattle.chain_lines.proofs.chain.separator.Goals as goal

pub returns-then-n-eq0 : goal.returns-then-n-eq0
unfolding separator_text
returns-then-n-eq0 c = rw c.if-n-eq0.true (ended _ _ _ (more _ _ _ _ (begun _ c.new.ensures) c.add.ensures) refl)

pub returns : goal.returns
unfolding separator_text
returns c = rw (ne_eqb _ _ c.if-n-eq0.false) (ended _ _ _ (more _ _ _ _ (begun _ c.new-2.ensures) c.add-2.ensures) refl)
