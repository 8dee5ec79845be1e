use Rattle.sign_steps.specs.Sign.{sign_step}
use Rattle.processing_marks.proofs.Steps.{sign_Copies}
use Rattle.data_marks.proofs.word.mark_signs.Goals as goal

pub returns : goal.returns
returns g c sign = rw (c.d_of.ensures.0, c.m_of.ensures.0) at (c.copy_vector.ensures (sign_step _ sign) (sign_Copies _ sign))
