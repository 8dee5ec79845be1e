use Rattle.text.proofs.Clipping.{added_at}
use Rattle.text.proofs.Fields as fields
use native.Mathlib.Omega.{arith}
use borrow.Author.Rules.{rules}
use Rattle.text.proofs.text.Text.add.Goals as goal

pub returns : goal.returns
returns c = rw (← c.self.view_is) (added_at c.self.inside.bytes _ _ _ _ _ (search rules) c.self.invariant.0 c.min-taken.ensures c.copy_from_slice.ensures.after)

pub invariant_of-self : goal.invariant_of-self
invariant_of-self c = fields.added c.self.inside (search rules) c.self.invariant _ _ _ _ c.min-taken.ensures c.copy_from_slice.ensures.after (omega arith)
