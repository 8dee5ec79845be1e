use borrow.Author.Tests.{eq-eqb, ne_eqb}
use Rattle.layout.specs.State.{valid}
use Rattle.layout.proofs.state.is_valid.Goals as goal

pub returns-then-state-ne-WINDOW : goal.returns-then-state-ne-WINDOW
unfolding valid
returns-then-state-ne-WINDOW c = rw (ne_eqb _ _ c.if-state-ne-WINDOW.true)

pub returns-then-state-ne0 : goal.returns-then-state-ne0
unfolding valid
returns-then-state-ne0 c = rw (eq-eqb _ _ c.if-state-ne-WINDOW.false, ne_eqb _ _ c.if-state-ne0.true)

pub returns-then-control_of-control : goal.returns-then-control_of-control
unfolding valid
returns-then-control_of-control c =
    rw (eq-eqb _ _ c.if-state-ne-WINDOW.false, eq-eqb _ _ c.if-state-ne0.false, ne_eqb _ _ (rw c.control_of.ensures at c.if-control_of-control.true))

pub returns-then-state-ne0-2 : goal.returns-then-state-ne0-2
unfolding valid
returns-then-state-ne0-2 c =
    rw (eq-eqb _ _ c.if-state-ne-WINDOW.false, eq-eqb _ _ c.if-state-ne0.false, eq-eqb _ _ (rw c.control_of.ensures at c.if-control_of-control.false), ne_eqb _ _ c.if-state-ne0-2.true)

pub returns : goal.returns
unfolding valid
returns c =
    rw (eq-eqb _ _ c.if-state-ne-WINDOW.false, eq-eqb _ _ c.if-state-ne0.false, eq-eqb _ _ (rw c.control_of.ensures at c.if-control_of-control.false), eq-eqb _ _ c.if-state-ne0-2.false)
