use Rattle.answer.proofs.report_exit.Goals as goal

pub returns-in-Nothing : goal.returns-in-Nothing
returns-in-Nothing c = rw c.in-Nothing.is c.write_answer.ensures

pub returns-in-Undefined : goal.returns-in-Undefined
returns-in-Undefined c = rw c.in-Undefined.is c.write_answer-in-Undefined.ensures

pub returns-in-Branched : goal.returns-in-Branched
returns-in-Branched c = rw c.in-Branched.is c.write_answer-in-Branched.ensures

pub returns-in-Refused : goal.returns-in-Refused
returns-in-Refused c = rw c.in-Refused.is c.write_answer-in-Refused.ensures
