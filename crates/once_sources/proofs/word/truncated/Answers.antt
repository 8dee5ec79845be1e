use Prim.Native.Nat.{ℕ}
use mathlib.Core.Bool.{Bool}
use lib.Ieee.{binary32, binary64}
use Rattle.integer_steps.specs.Integer.{truncate_step}
use Rattle.register_fields.specs.Fields.{reg_d, reg_m}
use Rattle.short_vectors.specs.Vector.{precision}
use Rattle.step_sources.proofs.Words.{only}
use Rattle.sources.specs.Source.{Tracing}
use Rattle.sources.proofs.Rules.{as_fields, as_tested}
use Rattle.once_sources.proofs.Rules.{truncate_Rule}
use Rattle.once_sources.proofs.word.truncated.Goals as goal

pub returns-then-double : goal.returns-then-double
returns-then-double c = let a = c.args in as_tested (λ (b : Bool). (any : Bool) → Tracing (truncate_step (precision b) any (reg_d binary32 a.op) (reg_m (precision b) a.op)) a.marks a.q c.source_of.result) c.if-double.true (as_fields (λ (d m : ℕ). (any : Bool) → Tracing (truncate_step binary64 any d m) a.marks a.q c.source_of.result) c.d_of-d.ensures.0 c.m_of.ensures.0 (λ any. c.source_of.ensures _ _ _ (truncate_Rule binary64 any c.d_of-d.result.0 c.m_of.result.0) c.of_double-p.ensures c.of_double-p.ensures))

pub returns : goal.returns
returns c = let a = c.args in as_tested (λ (b : Bool). (any : Bool) → Tracing (truncate_step (precision b) any (reg_d binary32 a.op) (reg_m (precision b) a.op)) a.marks a.q c.source_of-2.result) c.if-double.false (as_fields (λ (d m : ℕ). (any : Bool) → Tracing (truncate_step binary32 any d m) a.marks a.q c.source_of-2.result) c.d_of-d.ensures.0 c.m_of-m.ensures.0 (λ any. c.source_of-2.ensures _ _ _ (truncate_Rule binary32 any c.d_of-d.result.0 c.m_of-m.result.0) (only a.marks c.m_of-m.result.0) (only a.marks c.m_of-m.result.0)))
