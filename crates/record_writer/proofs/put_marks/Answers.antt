use native.Mathlib.Omega.{arith}
use mathlib.Core.Path.{refl, ◌∙◌}
use Rattle.record_writer.proofs.Laying.{none_put, one_put}
use Rattle.record_writer.proofs.put_marks.Goals as goal

pub loop-i-init : goal.loop-i-init
loop-i-init c =
    let start = c in
    (omega arith, refl, omega arith, none_put start.args.to.now start.args.at start.args.marks.now start.requires)

pub loop-i-preserved : goal.loop-i-preserved
loop-i-preserved c =
    let c₁ = c in
    let c₂ = c₁ in
    let c₃ = c₂ in
    let c₄ = c₃ in
    let start = c₄ in (
      omega arith,
      c₁.put_number-next.auto.to ∙ c₄.loop-i.invariant.1,
      omega (arith, c₁.put_number-next.ensures.0),
      one_put start.args.to.now
          start.args.at start.args.marks.now start.requires c₄.loop-i.to _ c₄.loop-i.next c₄.loop-i.i c₂.number.result
          c₃.loop-i-test.true c₄.loop-i.invariant.2 c₄.loop-i.invariant.3 c₂.number.ensures c₁.put_number-next.ensures.1,
    )
