use Rattle.arithmetic_steps.proofs.Steps.{same_control}
use Rattle.short_vectors.proofs.Loop.{reach_none, reach_again, reach_end}
use mathlib.Core.Path.{refl, ◌∙◌}
use native.Mathlib.Omega.{arith}
use Rattle.arithmetic_steps.proofs.arithmetic.arithmetic_vector.Goals as goal

pub loop-far-init : goal.loop-far-init
loop-far-init g c = (
  refl,
  rw (c.index-dn.ensures, c.index-nn.ensures, c.index-mn.ensures)
      (reach_none (rw c.control_of.ensures at c.new-vector.ensures) c.requires.0 c.requires.1 c.requires.2),
)

pub arithmetic-after-requires : goal.arithmetic-after-requires
arithmetic-after-requires g c = (c.reads_d-uses_d.ensures, g.met.R.Register.few _ (omega arith), g.met.R.Register.few _ (omega arith), g.met.R.Register.few _ (omega arith))

pub returns-then-far-end : goal.returns-then-far-end
returns-then-far-end g c =
    let does = rw (c.numbered.ensures, c.numbered-in-loop-far.ensures, c.numbered-in-loop-far-2.ensures, c.loop-far.invariant.0) at c.arithmetic-after.ensures in
    reach_end c.loop-far.invariant.1 does c.if-far-end.true

pub loop-far-preserved : goal.loop-far-preserved
loop-far-preserved g c =
    let does = rw (c.numbered.ensures, c.numbered-in-loop-far.ensures, c.numbered-in-loop-far-2.ensures, c.loop-far.invariant.0) at c.arithmetic-after.ensures in (
      same_control g.R.Word.Precision.format _ _ _ _ _ _ _ _ _ c.arithmetic-after.ensures ∙ c.loop-far.invariant.0,
      reach_again c.loop-far.invariant.1 does (omega arith) c.step-dn.ensures c.step-nn.ensures c.second-mn.ensures,
    )
