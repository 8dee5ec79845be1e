use Rattle.report.specs.Line.{r15_text}
use Rattle.text.proofs.Chain.{more, ended}
use mathlib.Core.List.{append_assoc}
use Rattle.report.proofs.line.with_r15.Goals as goal

pub returns-then-known : goal.returns-then-known
unfolding r15_text
returns-then-known c = rw c.if-known.true (ended _ _ _ (more _ _ _ _ c.add.ensures c.add_hex.ensures) (simp append_assoc))

pub returns : goal.returns
unfolding r15_text
returns c = rw c.if-known.false c.add-2.ensures
