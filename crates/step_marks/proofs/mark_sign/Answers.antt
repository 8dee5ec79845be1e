use mathlib.Core.Path.{sym, ◌∙◌}
use Rattle.place_marks.specs.Word.{map_in}
use Rattle.processing_marks.proofs.Steps.{sign_Copies}
use Rattle.step_marks.proofs.mark_sign.Goals as goal

pub returns : goal.returns
returns g c sign w = rw (c.d_of.ensures.0, c.m_of.ensures.0) at (c.copy_marks.ensures w) ∙ sym (sign_Copies _ sign _ _ (map_in c.args.marks w))
