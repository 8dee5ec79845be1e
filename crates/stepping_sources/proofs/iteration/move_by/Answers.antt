use mathlib.Core.Bool.{Bool}
use lib.Ieee.{binary32, binary64}
use Rattle.sources.proofs.Rules.{as_tested}
use Rattle.sources.specs.Source.{Tracing}
use Rattle.short_vectors.specs.Vector.{precision}
use Rattle.stepping_sources.specs.Stepping.{step_by}
use Rattle.stepping_sources.proofs.Walks.{traced_sign}
use Rattle.stepping_sources.proofs.iteration.move_by.Goals as goal

pub returns-then-double : goal.returns-then-double
returns-then-double c = let a = c.args in λ control n z marks h g. as_tested (λ (v : Bool). Tracing (step_by (precision v) control n a.d z a.b) marks a.q c.sign_double.result) c.if-double.true (traced_sign binary64 control n a.d z a.b marks a.q c.sign_double.result h g (λ sign. c.sign_double.ensures sign marks))

pub returns : goal.returns
returns c = let a = c.args in λ control n z marks h g. as_tested (λ (v : Bool). Tracing (step_by (precision v) control n a.d z a.b) marks a.q c.sign_single.result) c.if-double.false (traced_sign binary32 control n a.d z a.b marks a.q c.sign_single.result h g (λ sign. c.sign_single.ensures sign marks))
