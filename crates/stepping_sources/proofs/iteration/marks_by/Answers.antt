use mathlib.Core.Bool.{Bool}
use mathlib.Core.Path.{ap, ◌∙◌}
use lib.Ieee.{binary32, binary64}
use Rattle.processing_marks.specs.Marked.{MarksStepped}
use Rattle.sources.proofs.Rules.{as_tested}
use Rattle.short_vectors.specs.Vector.{precision}
use Rattle.decoding.specs.Operation.{arithmetic_of}
use Rattle.stepping_sources.specs.Stepping.{step_by}
use Rattle.stepping_sources.proofs.Walks.{marked_arithmetic, marked_root}
use Rattle.stepping_sources.proofs.iteration.marks_by.Goals as goal

pub returns-then-double : goal.returns-then-double
returns-then-double c = let a = c.args in λ control h. as_tested (λ (z : Bool). MarksStepped (step_by (precision z) control a.n a.d a.a a.b) a.marks c.mark_sum.result) c.if-double.true (marked_arithmetic binary64 control a.n a.d a.a a.b a.marks c.mark_sum.result c.if-n-lt10.true (c.arithmetic_of-kind.ensures ∙ ap arithmetic_of c.from.ensures) (c.mark_sum.ensures control))

pub returns-then-n-lt10 : goal.returns-then-n-lt10
returns-then-n-lt10 c = let a = c.args in λ control h. as_tested (λ (z : Bool). MarksStepped (step_by (precision z) control a.n a.d a.a a.b) a.marks c.mark_sum-then-n-lt10.result) c.if-double.false (marked_arithmetic binary32 control a.n a.d a.a a.b a.marks c.mark_sum-then-n-lt10.result c.if-n-lt10.true (c.arithmetic_of-kind.ensures ∙ ap arithmetic_of c.from.ensures) (c.mark_sum-then-n-lt10.ensures control))

pub returns-then-double-2 : goal.returns-then-double-2
returns-then-double-2 c = let a = c.args in λ control h. as_tested (λ (z : Bool). MarksStepped (step_by (precision z) control a.n a.d a.a a.b) a.marks c.mark_root.result) c.if-double-2.true (marked_root binary64 control a.n a.d a.a a.b a.marks c.mark_root.result (h c.if-n-lt10.false) (c.mark_root.ensures control))

pub returns : goal.returns
returns c = let a = c.args in λ control h. as_tested (λ (z : Bool). MarksStepped (step_by (precision z) control a.n a.d a.a a.b) a.marks c.mark_root-2.result) c.if-double-2.false (marked_root binary32 control a.n a.d a.a a.b a.marks c.mark_root-2.result (h c.if-n-lt10.false) (c.mark_root-2.ensures control))
