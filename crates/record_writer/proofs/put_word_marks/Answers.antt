use native.Mathlib.Omega.{arith}
use mathlib.Core.Path.{refl, ◌∙◌}
use Rattle.machine.specs.Place.{before}
use Rattle.records.specs.Recorded.{marks_of_word}
use Rattle.record_writer.proofs.Laying.{none_put, one_put, all_put}
use Rattle.records.proofs.MarkWords.{marks_length, next_mark, first_bit, mark_is}
use Rattle.record_writer.proofs.put_word_marks.Goals as goal

pub loop-i-init : goal.loop-i-init
loop-i-init c =
    let start = c in (
      omega arith,
      refl,
      omega arith,
      first_bit start.args.marks,
      none_put start.args.to.now start.args.at
          (marks_of_word before start.args.marks) (rw (marks_length before start.args.marks) start.requires),
    )

pub loop-i-preserved : goal.loop-i-preserved
loop-i-preserved c =
    let c₁ = c in
    let c₂ = c₁ in
    let c₃ = c₂ in
    let start = c₃ in (
      omega arith,
      c₁.put_number-next.auto.to ∙ c₃.loop-i.invariant.1,
      omega (arith, c₁.put_number-next.ensures.0),
      next_mark start.args.marks
          c₃.loop-i.i c₃.loop-i.rest c₃.loop-i.invariant.3,
      one_put start.args.to.now start.args.at (marks_of_word before start.args.marks)
          (rw (marks_length before start.args.marks) start.requires) c₃.loop-i.to _ c₃.loop-i.next c₃.loop-i.i c₂.low_bit.result
          (rw (marks_length before start.args.marks) (omega arith)) c₃.loop-i.invariant.2 c₃.loop-i.invariant.4
          (mark_is before start.args.marks c₃.loop-i.i c₃.loop-i.rest _ (omega arith) c₃.loop-i.invariant.3 c₂.low_bit.ensures)
          c₁.put_number-next.ensures.1,
    )

pub returns : goal.returns
returns c =
    let start = c in (
      omega arith,
      all_put start.args.to.now start.args.at (marks_of_word before start.args.marks)
          (rw (marks_length before start.args.marks) start.requires) c.loop-i.to c.loop-i.i
          (rw (marks_length before start.args.marks) (omega arith)) c.loop-i.invariant.4,
    )
