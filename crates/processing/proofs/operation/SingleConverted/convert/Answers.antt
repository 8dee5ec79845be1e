use Rattle.processing.proofs.operation.SingleConverted.convert.Goals as goal

pub returns : goal.returns
returns c = rw (c.d_of.ensures.0, c.m_of.ensures.0) at c.widen_single.ensures
