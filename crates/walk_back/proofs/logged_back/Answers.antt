use Rattle.walk_back.proofs.Walking.{skipped, executed}
use borrow.Author.Tests.{not-true, not-false}
use mathlib.Core.Path.{sym, ◌∙◌}
use native.Mathlib.Omega.{arith}
use Rattle.walk_back.proofs.logged_back.Goals as goal

pub returns-then-skip : goal.returns-then-skip
returns-then-skip c = let a = c.args in (omega arith, λ st v e. skipped a.base a.op st a.index a.marks a.q a.k _ (not-true _ (sym e ∙ c.if-skip.true)))

pub returns : goal.returns
returns c = let a = c.args in (c.word_back.ensures.0, λ st v e. executed a.base a.op st a.index a.marks a.q a.k _ (not-false _ (sym e ∙ c.if-skip.false)) _ _ (c.word_back.ensures.1 st v))
