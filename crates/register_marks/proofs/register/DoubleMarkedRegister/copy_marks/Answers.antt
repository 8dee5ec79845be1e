use Rattle.register_marks.proofs.Doubles.{both_marked, low_known, high_known}
use Rattle.register_marks.proofs.register.DoubleMarkedRegister.copy_marks.Goals as goal

pub returns : goal.returns
returns c w = let a = c.args in rw (c.with_two.ensures, c.two_at.ensures.0, low_known a.marks w a.m.0, high_known a.marks w a.m.0) (both_marked a.marks w a.d.0 _ _)
