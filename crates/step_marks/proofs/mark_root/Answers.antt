use Rattle.step_marks.proofs.mark_root.Goals as goal

pub returns : goal.returns
returns g c k = rw (c.d_of.ensures.0, c.m_of.ensures.0) at (c.mark_root.ensures k)
