use Prim.Native.Nat.{ℕ}
use mathlib.Core.List.{[], ◌∷◌}
use lib.Ieee.{binary32}
use Rattle.width_steps.specs.Width.{widen_step}
use Rattle.short_vectors.specs.Register.{words_of}
use Rattle.step_sources.proofs.Words.{only}
use Rattle.sources.specs.Source.{Tracing}
use Rattle.sources.proofs.Rules.{as_fields}
use Rattle.once_sources.proofs.Rules.{widen_Rule}
use Rattle.once_sources.proofs.word.widened.Goals as goal

pub returns : goal.returns
returns c = let a = c.args in as_fields (λ (d m : ℕ). Tracing (widen_step d m) a.marks a.q c.source_of.result) c.d_of-d.ensures.0 c.m_of-m.ensures.0 (c.source_of.ensures _ _ _ (widen_Rule c.d_of-d.result.0 c.m_of-m.result.0) (c.of_control.ensures (words_of binary32 (c.m_of-m.result.0 ∷ [])) (only a.marks c.m_of-m.result.0)) (only a.marks c.m_of-m.result.0))
