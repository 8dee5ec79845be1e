use Rattle.std.proofs.Common.{arith}
use borrow.Author.Tests.{ne_eqb}
use Rattle.script.specs.Item.{window_step}
use Rattle.script.proofs.item.set_window.Goals as goal

pub returns-then-layout : goal.returns-then-layout
unfolding window_step
returns-then-layout c = rw c.if-layout.true

pub returns-in-0 : goal.returns-in-0
unfolding window_step
returns-in-0 c = rw (c.if-layout.false, ← c.window_limit.ensures, c.in-0.is)

pub returns-in_default : goal.returns-in_default
unfolding window_step
returns-in_default c = rw (c.if-layout.false, ← c.window_limit.ensures, ne_eqb c.window_limit.result 0 (λ z. omega arith))
