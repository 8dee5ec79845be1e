use Rattle.register_marks.proofs.Doubles.{both_known}
use Rattle.register_marks.proofs.register.DoubleMarkedRegister.known.Goals as goal

pub returns : goal.returns
returns c w = both_known c.args.marks w c.args.self.0 c.two_at.result c.two_at.ensures.0
