use mathlib.Core.Bool.{Bool}
use lib.Ieee.{binary32, binary64}
use Rattle.sources.proofs.Rules.{as_tested}
use Rattle.sources.specs.Source.{Tracing}
use Rattle.short_vectors.specs.Vector.{precision}
use Rattle.stepping_sources.specs.Stepping.{step_by}
use Rattle.stepping_sources.proofs.Walks.{traced_arithmetic, traced_root}
use Rattle.stepping_sources.proofs.iteration.number_by.Goals as goal

pub returns-then-double : goal.returns-then-double
returns-then-double c = let a = c.args in λ control h. as_tested (λ (z : Bool). Tracing (step_by (precision z) control a.n a.d a.a a.b) a.marks a.q c.arithmetic_double.result) c.if-double.true (traced_arithmetic binary64 control a.n a.d a.a a.b a.marks a.q c.arithmetic_double.result c.if-n-lt10.true (c.arithmetic_double.ensures control))

pub returns-then-n-lt10 : goal.returns-then-n-lt10
returns-then-n-lt10 c = let a = c.args in λ control h. as_tested (λ (z : Bool). Tracing (step_by (precision z) control a.n a.d a.a a.b) a.marks a.q c.arithmetic_single.result) c.if-double.false (traced_arithmetic binary32 control a.n a.d a.a a.b a.marks a.q c.arithmetic_single.result c.if-n-lt10.true (c.arithmetic_single.ensures control))

pub returns-then-double-2 : goal.returns-then-double-2
returns-then-double-2 c = let a = c.args in λ control h. as_tested (λ (z : Bool). Tracing (step_by (precision z) control a.n a.d a.a a.b) a.marks a.q c.root_double.result) c.if-double-2.true (traced_root binary64 control a.n a.d a.a a.b a.marks a.q c.root_double.result (h c.if-n-lt10.false) (c.root_double.ensures control))

pub returns : goal.returns
returns c = let a = c.args in λ control h. as_tested (λ (z : Bool). Tracing (step_by (precision z) control a.n a.d a.a a.b) a.marks a.q c.root_single.result) c.if-double-2.false (traced_root binary32 control a.n a.d a.a a.b a.marks a.q c.root_single.result (h c.if-n-lt10.false) (c.root_single.ensures control))
