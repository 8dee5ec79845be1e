use Rattle.std.proofs.Common.{arith}
use Rattle.short_vectors.proofs.Loop.{initially, again, finally}
use Rattle.root_steps.proofs.root.root_vector.Goals as goal

pub loop-i-init : goal.loop-i-init
loop-i-init g c = rw (c.index-dn.ensures, c.index-mn.ensures) (initially c.new-vector.ensures c.requires.0 c.requires.0 c.requires.1)

pub returns-then-i-count : goal.returns-then-i-count
returns-then-i-count g c =
    let does = rw (c.numbered.ensures, c.numbered-in-loop-i.ensures) at c.root-after.ensures in
    finally c.loop-i.invariant does c.if-i-count.true

pub loop-i-preserved : goal.loop-i-preserved
loop-i-preserved g c =
    let does = rw (c.numbered.ensures, c.numbered-in-loop-i.ensures) at c.root-after.ensures in
    again c.loop-i.invariant does (omega arith) c.step-dn.ensures c.step-dn.ensures c.second-mn.ensures
