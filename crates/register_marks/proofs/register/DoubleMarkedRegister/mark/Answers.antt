use mathlib.Core.Bool.{true, false}
use Rattle.register_marks.proofs.Doubles.{both_marked}
use Rattle.register_marks.proofs.register.DoubleMarkedRegister.mark.Goals as goal

pub returns-then-b : goal.returns-then-b
returns-then-b c w = let a = c.args in rw (c.with_two.ensures, c.if-b.true) (both_marked a.marks w a.self.0 true true)

pub returns : goal.returns
returns c w = let a = c.args in rw (c.with_two-2.ensures, c.if-b.false) (both_marked a.marks w a.self.0 false false)
