use native.Mathlib.Omega.{arith}
use borrow.Author.Tests.{not-false}
use Rattle.window_marks.proofs.Ones.{ones_le}
use Rattle.window_marks.proofs.marks.count_bits.Goals as goal

pub overflow_add-ones : goal.overflow_add-ones
overflow_add-ones c = let f = c.count_words-c.ensures.1 (not-false c.count_words-c.result.bits c.if-not-c.false) in omega (arith, f.1, ones_le c.args.marks.now, c.loop-i.invariant.2)

pub count_bits_from-requires : goal.count_bits_from-requires
count_bits_from-requires c = omega (arith, c.loop-i.invariant.2, ones_le c.args.marks.now)
