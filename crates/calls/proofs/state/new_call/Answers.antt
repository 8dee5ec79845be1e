use borrow.Author.Tests.{eq-eqb, ne_eqb}
use Rattle.calls.proofs.state.new_call.Goals as goal

pub returns-then-state-ne-WINDOW : goal.returns-then-state-ne-WINDOW
returns-then-state-ne-WINDOW c = rw (ne_eqb _ _ c.if-state-ne-WINDOW.true)

pub returns : goal.returns
returns c = rw (eq-eqb _ _ c.if-state-ne-WINDOW.false, c.encode.ensures, c.new.ensures)
