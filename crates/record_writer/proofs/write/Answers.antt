use Prim.Native.Nat.{ℕ, ◌+◌}
use mathlib.Core.Path.{ap}
use Rattle.records.specs.Recorded.{layout_bit}
use Rattle.record_writer.proofs.Laying.{wrote}
use Rattle.record_writer.proofs.write.Goals as goal

pub returns : goal.returns
returns c =
    let c₁ = c in
    let c₂ = c₁ in
    let c₃ = c₂ in
    let c₄ = c₃ in
    let c₅ = c₄ in
    let c₆ = c₅ in
    let c₇ = c₆ in
    let c₈ = c₇ in
    let c₉ = c₈ in
    let c₁₀ = c₉ in
    let start = c₁₀ in
    wrote start.args.state.now start.args.window.now start.args.window_marks.now start.args.list.now start.args.to.now
    start.args.marks start.args.base start.requires _ _ _ _ _ _ _ _ _ _ _ _ _ _ _ _ _ _ (ap (λ (n : ℕ). layout_bit + n) c₁₀.count.ensures) c₈.count-2.ensures
    c₉.put_number-at.ensures c₇.put_number-at-2.ensures c₆.put_numbers-at.ensures c₅.put_numbers-at-2.ensures
    c₄.put_word_marks-at.ensures c₃.put_marks-at.ensures c₂.put_number-at-3.ensures c₁.put_numbers.ensures
