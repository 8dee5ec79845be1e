use Rattle.step_marks.proofs.d_known.Goals as goal

pub returns : goal.returns
returns g c w = rw c.d_of.ensures.0 at (c.known.ensures w)
