use native.Mathlib.Omega.{arith}
use mathlib.Core.Path.{refl, ◌∙◌}
use Rattle.record_writer.proofs.Laying.{none_put, one_put}
use Rattle.record_writer.proofs.put_numbers.Goals as goal

pub loop-i-init : goal.loop-i-init
loop-i-init c =
    let start = c in
    (omega arith, refl, omega arith, none_put start.args.to.now start.args.at start.args.words.now start.requires)

pub loop-i-preserved : goal.loop-i-preserved
loop-i-preserved c =
    let c₁ = c in
    let c₂ = c₁ in
    let c₃ = c₂ in
    let start = c₃ in (
      omega arith,
      c₁.put_number-next.auto.to ∙ c₃.loop-i.invariant.1,
      omega (arith, c₁.put_number-next.ensures.0),
      one_put start.args.to.now
          start.args.at start.args.words.now start.requires c₃.loop-i.to _ c₃.loop-i.next c₃.loop-i.i _ c₂.loop-i-test.true
          c₃.loop-i.invariant.2 c₃.loop-i.invariant.3 refl c₁.put_number-next.ensures.1,
    )
