use Rattle.processing.proofs.operation.DoubleConverted.convert.Goals as goal

pub returns : goal.returns
returns c = rw (c.d_of.ensures.0, c.m_of.ensures.0) at c.narrow_double.ensures
