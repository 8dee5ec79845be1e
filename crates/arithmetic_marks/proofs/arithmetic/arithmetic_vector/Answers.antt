use native.Mathlib.Omega.{arith}
use Rattle.short_vectors.proofs.Loop.{initially, again, finally}
use Rattle.arithmetic_marks.proofs.arithmetic.arithmetic_vector.Goals as goal

pub loop-i-init : goal.loop-i-init
loop-i-init g c = rw (c.index-dn.ensures, c.index-nn.ensures, c.index-mn.ensures) (initially c.new-vector.ensures c.requires.0 c.requires.1 c.requires.2)

pub returns-then-i-count : goal.returns-then-i-count
returns-then-i-count g c =
    let does = rw (c.numbered.ensures, c.numbered-in-loop-i.ensures, c.numbered-in-loop-i-2.ensures) at (c.mark_sum-done.ensures c.args.control) in
    finally c.loop-i.invariant does c.if-i-count.true

pub loop-i-preserved : goal.loop-i-preserved
loop-i-preserved g c =
    let does = rw (c.numbered.ensures, c.numbered-in-loop-i.ensures, c.numbered-in-loop-i-2.ensures) at (c.mark_sum-done.ensures c.args.control) in
    again c.loop-i.invariant does (omega arith) c.step-dn.ensures c.step-nn.ensures c.second-mn.ensures
