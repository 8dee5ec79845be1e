use Prim.Native.Nat.{ℕ}
use mathlib.Core.List.{[], ◌∷◌}
use lib.Ieee.{binary64}
use Rattle.width_steps.specs.Width.{narrow_step}
use Rattle.short_vectors.specs.Register.{words_of}
use Rattle.sources.specs.Source.{Tracing}
use Rattle.sources.proofs.Rules.{as_fields}
use Rattle.once_sources.proofs.Rules.{narrow_Rule}
use Rattle.once_sources.proofs.word.narrowed.Goals as goal

pub returns : goal.returns
returns c = let a = c.args in as_fields (λ (d m : ℕ). Tracing (narrow_step d m) a.marks a.q c.source_of.result) c.d_of-d.ensures.0 c.m_of.ensures.0 (c.source_of.ensures _ _ _ (narrow_Rule c.d_of-d.result.0 c.m_of.result.0) (c.of_control-p.ensures (words_of binary64 (c.m_of.result.0 ∷ [])) c.of_double.ensures) (c.of_control-p.ensures (words_of binary64 (c.m_of.result.0 ∷ [])) c.of_double.ensures))
