use Rattle.data_marks.proofs.word.mark_roots.Goals as goal

pub returns : goal.returns
returns g c = rw (c.d_of.ensures.0, c.m_of.ensures.0) at c.root_vector.ensures
