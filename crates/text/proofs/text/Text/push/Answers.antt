use native.Mathlib.Omega.{arith}
use Rattle.text.proofs.Clipping.{push_room, push_full}
use Rattle.text.proofs.Fields.{pushed}
use borrow.Author.Rules.{rules}
use Rattle.text.proofs.text.Text.push.Goals as goal

pub returns-then-self-lt128 : goal.returns-then-self-lt128
returns-then-self-lt128 c = rw (← c.self.view_is) (push_room _ _ _ (search rules) c.if-self-lt128.true)

pub returns-else-self-lt128 : goal.returns-else-self-lt128
returns-else-self-lt128 c = rw (← c.self.view_is) (push_full _ _ _ (search rules) c.if-self-lt128.false)

pub invariant_of-self : goal.invariant_of-self
invariant_of-self c = pushed c.self.inside (search rules) c.self.invariant c.args.b (omega (arith, c.if-self-lt128.true))
