use native.Mathlib.Omega.{arith}
use Rattle.window_marks.proofs.Ones.{ones_le}
use Rattle.known_places.proofs.Count.{one_in, ones_with}
use Rattle.known_places.proofs.ones_with.Goals as goal

pub overflow_add-result : goal.overflow_add-result
overflow_add-result c = omega (arith, ones_le c.args.marks.now, c.requires.0, c.byte_of.ensures.1)

pub overflow_sub-result : goal.overflow_sub-result
overflow_sub-result c = omega (arith, c.one.ensures.0, one_in c.args.marks.now c.args.i c.requires.1, c.requires.0)

pub returns : goal.returns
returns c = omega (arith, c.one.ensures.0, c.byte_of.ensures.0, one_in c.args.marks.now c.args.i c.requires.1, ones_with c.args.marks.now c.args.i c.requires.1 c.args.b, c.requires.0)
