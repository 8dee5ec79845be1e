use mathlib.Core.Path.{sym, ◌∙◌}
use native.Mathlib.Omega.{arith}
use Rattle.place_marks.specs.Word.{map_in}
use Rattle.short_vectors.proofs.Loop.{initially, again, finally}
use Rattle.processing_marks.proofs.vector.copy_vector.Goals as goal

pub loop-i-init : goal.loop-i-init
loop-i-init g c = rw (c.index-dn.ensures, c.index-mn.ensures) (initially c.new-vector.ensures c.requires.0 c.requires.0 c.requires.1)

pub returns-then-i-count : goal.returns-then-i-count
returns-then-i-count g c =
    finally c.loop-i.invariant (λ one k w. rw (c.numbered.ensures, c.numbered-in-loop-i.ensures) at (c.copy_marks-done.ensures w) ∙ sym (k c.loop-i.dn c.loop-i.mn (map_in c.loop-i.done w))) c.if-i-count.true

pub loop-i-preserved : goal.loop-i-preserved
loop-i-preserved g c =
    again c.loop-i.invariant (λ one k w. rw (c.numbered.ensures, c.numbered-in-loop-i.ensures) at (c.copy_marks-done.ensures w) ∙ sym (k c.loop-i.dn c.loop-i.mn (map_in c.loop-i.done w)))
    (omega arith) c.step-dn.ensures c.step-dn.ensures c.second-mn.ensures
