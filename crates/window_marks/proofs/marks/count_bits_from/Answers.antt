use lib.ListN.{get_or}
use native.Mathlib.Omega.{arith}
use mathlib.Core.Path.{◌∙◌}
use Rattle.window_marks.proofs.Bytes.{bits_not, bits_on, bits_end}
use Rattle.window_marks.proofs.Ones.{differ, bit_one, ones_on, ones_end}
use Rattle.window_marks.proofs.marks.count_bits_from.Goals as goal

pub returns-then-m-gt1 : goal.returns-then-m-gt1
returns-then-m-gt1 c = (bits_not c.args.marks.now c.loop-i.i c.loop-i-test.true c.if-m-gt1.true ∙ c.loop-i.invariant.0, λ e. absurd (differ e))

pub loop-i-preserved : goal.loop-i-preserved
loop-i-preserved c = (bits_on c.args.marks.now c.loop-i.i c.loop-i-test.true c.if-m-gt1.false ∙ c.loop-i.invariant.0, omega (arith, c.loop-i.invariant.1, ones_on c.args.marks.now c.loop-i.i c.loop-i-test.true, bit_one (get_or c.args.marks.now c.loop-i.i 0) c.if-m-gt1.false))

pub returns : goal.returns
returns c = (bits_end c.args.marks.now c.loop-i.i c.loop-i-test.false ∙ c.loop-i.invariant.0, λ e. omega (arith, c.loop-i.invariant.1, ones_end c.args.marks.now c.loop-i.i c.loop-i-test.false))
