use borrow.Author.Tests.{lt-ltb, le-ltb, eq-eqb, ne_eqb}
use Rattle.limits.specs.Limit.{run_limit}
use Rattle.limits.proofs.limit.run_limit.Goals as goal

pub returns-then-list-gt4096 : goal.returns-then-list-gt4096
unfolding run_limit
returns-then-list-gt4096 c = rw (lt-ltb _ _ c.if-list-gt4096.true)

pub returns-then-window-ne0 : goal.returns-then-window-ne0
unfolding run_limit
returns-then-window-ne0 c = rw (le-ltb _ _ c.if-list-gt4096.false, ← c.window_limit-window.ensures, ne_eqb _ _ c.if-window-ne0.true)

pub returns-then-thumb : goal.returns-then-thumb
unfolding run_limit
returns-then-thumb c = rw (le-ltb _ _ c.if-list-gt4096.false, ← c.window_limit-window.ensures, eq-eqb _ _ c.if-window-ne0.false, c.if-thumb.true)

pub returns : goal.returns
unfolding run_limit
returns c = rw (le-ltb _ _ c.if-list-gt4096.false, ← c.window_limit-window.ensures, eq-eqb _ _ c.if-window-ne0.false, c.if-thumb.false)
