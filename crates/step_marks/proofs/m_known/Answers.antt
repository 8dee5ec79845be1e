use Rattle.step_marks.proofs.m_known.Goals as goal

pub returns : goal.returns
returns g c w = rw c.m_of.ensures.0 at (c.known.ensures w)
