use Prim.Native.Nat.{◌-◌}
use lib.ListN.{take, drop}
use native.Mathlib.Omega.{arith}
use mathlib.Core.Path.{sym, ◌∙◌}
use Rattle.machine.specs.Place.{before}
use Rattle.records.specs.Number.{numbers_of}
use Rattle.records.proofs.Laws.{part_length, part_at, word_fits, word_end, word_more, bits_at}
use Rattle.record_marks.proofs.word.Goals as goal

pub loop-i-init : goal.loop-i-init
loop-i-init c =
    let start = c in (
      omega arith,
      word_end before (take before (drop start.args.from (numbers_of start.args.bytes.now)))
          (part_length start.args.bytes.now start.args.from before start.requires.0),
    )

pub overflow_mul-w : goal.overflow_mul-w
overflow_mul-w c =
    let start = c in
    omega (
      arith,
      c.loop-i.invariant.1,
      word_fits before c.loop-i.i
          (take before (drop start.args.from (numbers_of start.args.bytes.now))) start.requires.1
          (part_length start.args.bytes.now start.args.from before start.requires.0),
    )

pub overflow_add-w : goal.overflow_add-w
overflow_add-w c =
    let c₁ = c in
    let start = c₁ in
    omega (
      arith,
      c₁.loop-i.invariant.1,
      word_fits before c₁.loop-i.i (take before (drop start.args.from (numbers_of start.args.bytes.now)))
          start.requires.1 (part_length start.args.bytes.now start.args.from before start.requires.0),
      c.wide.ensures,
      (c.nth.ensures ∙ sym (part_at start.args.bytes.now start.args.from before start.requires.0 (c₁.loop-i.i - 1) (omega arith))),
      bits_at (take before (drop start.args.from (numbers_of start.args.bytes.now))) (c₁.loop-i.i - 1) start.requires.1,
    )

pub loop-i-preserved : goal.loop-i-preserved
loop-i-preserved c =
    let c₁ = c in
    let c₂ = c₁ in
    let start = c₂ in (
      omega arith,
      word_more (take before (drop start.args.from (numbers_of start.args.bytes.now))) c₂.loop-i.i c₂.loop-i.w
          c.wide.result c₁.loop-i-test.true (rw (part_length start.args.bytes.now start.args.from before start.requires.0) (omega arith))
          c₂.loop-i.invariant.1 (c.wide.ensures ∙ (c.nth.ensures ∙ sym
          (part_at start.args.bytes.now start.args.from before start.requires.0 (c₂.loop-i.i - 1) (omega arith)))),
    )
