use borrow.Author.Tests.{ne_eqb}
use mathlib.Core.Path.{sym, ◌∙◌}
use Rattle.meaning.proofs.Laws.{plain-once, plain-branch}
use Rattle.transfers.proofs.single.single_core.Goals as goal

pub returns-then-rt-eq15 : goal.returns-then-rt-eq15
returns-then-rt-eq15 c = λ x v. rw (sym c.bit.ensures ∙ c.if-bit.true, sym c.bits-rt.ensures ∙ c.if-rt-eq15.true) (plain-branch _ _ _ (rw (c.branch-r.ensures, c.get_single-value.ensures)))

pub returns-then-bit : goal.returns-then-bit
returns-then-bit c = λ x v. rw (sym c.bit.ensures ∙ c.if-bit.true, ne_eqb _ _ (rw c.bits-rt.ensures at c.if-rt-eq15.false)) (plain-once _ _ _ (rw (c.get_single-value.ensures, c.bits-rt.ensures)))

pub returns : goal.returns
returns c = λ x v. rw (sym c.bit.ensures ∙ c.if-bit.false) (plain-once _ _ _ (rw (c.set_single.ensures, c.bits-rt.ensures)))
