use lib.ListN.{length, take, drop, length-set}
use native.Mathlib.Omega.{arith}
use mathlib.Core.Path.{sym, ◌∙◌}
use Rattle.records.specs.Number.{numbers_of}
use Rattle.records.proofs.Laws.{part_length, part_at, one_more}
use Rattle.record_numbers.proofs.fill.Goals as goal

pub loop-i-preserved : goal.loop-i-preserved
loop-i-preserved c =
    let c₁ = c in
    let start = c₁ in (
      omega arith,
      simp length-set c₁.loop-i.invariant.1,
      one_more c₁.loop-i.to
          (take (length start.args.to.now) (drop start.args.from (numbers_of start.args.bytes.now))) c₁.loop-i.i c.nth.result
          (omega arith) (rw (part_length start.args.bytes.now start.args.from (length start.args.to.now) start.requires) (omega arith))
          (c.nth.ensures ∙ sym (part_at start.args.bytes.now start.args.from (length start.args.to.now) start.requires c₁.loop-i.i
          (omega arith))) c₁.loop-i.invariant.2,
    )
