use native.Mathlib.Omega.{arith}
use Rattle.window_marks.proofs.Ones.{ones_le, ones_on, ones_end}
use Rattle.window_marks.proofs.marks.count_ones.Goals as goal

pub overflow_add-ones : goal.overflow_add-ones
overflow_add-ones c = omega (arith, ones_le c.args.marks.now, c.loop-i.invariant, ones_on c.args.marks.now c.loop-i.i c.loop-i-test.true, c.one-ones.ensures.0)

pub loop-i-preserved : goal.loop-i-preserved
loop-i-preserved c = omega (arith, c.loop-i.invariant, ones_on c.args.marks.now c.loop-i.i c.loop-i-test.true, c.one-ones.ensures.0)

pub returns : goal.returns
returns c = omega (arith, c.loop-i.invariant, ones_end c.args.marks.now c.loop-i.i c.loop-i-test.false)
