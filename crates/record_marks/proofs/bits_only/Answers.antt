use lib.ListN.{take, drop}
use native.Mathlib.Omega.{arith}
use mathlib.Core.Path.{sym, ◌∙◌}
use Rattle.records.specs.Number.{numbers_of}
use Rattle.window_marks.proofs.Bytes.{bits_end, bits_on, bits_not}
use Rattle.records.proofs.Laws.{part_length, part_at}
use Rattle.record_marks.proofs.bits_only.Goals as goal

pub returns-then-nth-gt1 : goal.returns-then-nth-gt1
returns-then-nth-gt1 c =
    let c₁ = c in
    let c₂ = c₁ in
    let start = c₂ in
    bits_not (take start.args.count (drop start.args.from (numbers_of start.args.bytes.now))) c₂.loop-i.i
    (rw (part_length start.args.bytes.now start.args.from start.args.count start.requires) (omega arith))
    (omega (
      arith,
      (c.nth.ensures ∙ sym (part_at start.args.bytes.now start.args.from start.args.count start.requires
          c₂.loop-i.i c₁.loop-i-test.true)),
      c.if-nth-gt1.true,
    )) ∙ c₂.loop-i.invariant.1

pub loop-i-preserved : goal.loop-i-preserved
loop-i-preserved c =
    let c₁ = c in
    let c₂ = c₁ in
    let start = c₂ in (
      omega arith,
      bits_on (take start.args.count (drop start.args.from (numbers_of start.args.bytes.now))) c₂.loop-i.i
          (rw (part_length start.args.bytes.now start.args.from start.args.count start.requires) (omega arith))
          (omega (
            arith,
            (c.nth.ensures ∙ sym (part_at start.args.bytes.now start.args.from start.args.count start.requires
                c₂.loop-i.i c₁.loop-i-test.true)),
            c.if-nth-gt1.false,
          )) ∙ c₂.loop-i.invariant.1,
    )

pub returns : goal.returns
returns c =
    let start = c in
    bits_end (take start.args.count (drop start.args.from (numbers_of start.args.bytes.now))) c.loop-i.i
    (rw (part_length start.args.bytes.now start.args.from start.args.count start.requires) (omega arith)) ∙ c.loop-i.invariant.1
