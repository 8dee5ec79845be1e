use lib.ListN.{length, take, drop, length-set}
use native.Mathlib.Omega.{arith}
use mathlib.Core.Path.{sym, ◌∙◌}
use Rattle.records.specs.Number.{numbers_of}
use Rattle.records.proofs.Laws.{part_length, part_at, one_more, bits_at}
use Rattle.record_marks.proofs.fill.Goals as goal

pub byte_of-requires : goal.byte_of-requires
byte_of-requires c =
    let c₁ = c in
    let start = c₁ in
    rw (c.nth.ensures ∙ sym (part_at start.args.bytes.now start.args.from (length start.args.to.now) start.requires.0
    c₁.loop-i.i (omega arith))) (bits_at (take (length start.args.to.now)
    (drop start.args.from (numbers_of start.args.bytes.now))) c₁.loop-i.i start.requires.1)

pub loop-i-preserved : goal.loop-i-preserved
loop-i-preserved c =
    let c₁ = c in
    let start = c₁ in (
      omega arith,
      simp length-set c₁.loop-i.invariant.1,
      one_more c₁.loop-i.to
          (take (length start.args.to.now) (drop start.args.from (numbers_of start.args.bytes.now))) c₁.loop-i.i c.byte_of.result
          (omega arith) (rw (part_length start.args.bytes.now start.args.from (length start.args.to.now) start.requires.0)
          (omega arith)) (c.byte_of.ensures ∙ c.nth.ensures ∙ sym
          (part_at start.args.bytes.now start.args.from (length start.args.to.now) start.requires.0 c₁.loop-i.i (omega arith)))
          c₁.loop-i.invariant.2,
    )
