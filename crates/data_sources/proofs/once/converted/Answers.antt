use mathlib.Core.Bool.{Bool}
use Rattle.processing.specs.Data.{convert_step}
use Rattle.sources.specs.Source.{Tracing}
use Rattle.sources.proofs.Rules.{as_tested}
use Rattle.short_vectors.specs.Vector.{precision}
use Rattle.data_sources.proofs.once.converted.Goals as goal

pub returns-then-double : goal.returns-then-double
returns-then-double c = let a = c.args in as_tested (λ (z : Bool). Tracing (convert_step (precision z) a.op) a.marks a.q c.narrowed.result) c.if-double.true c.narrowed.ensures

pub returns : goal.returns
returns c = let a = c.args in as_tested (λ (z : Bool). Tracing (convert_step (precision z) a.op) a.marks a.q c.widened.result) c.if-double.false c.widened.ensures
