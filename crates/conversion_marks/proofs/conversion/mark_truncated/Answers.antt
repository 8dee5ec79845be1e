use mathlib.Core.Path.{sym, ◌∙◌}
use Rattle.place_marks.specs.Word.{map_in}
use Rattle.processing_marks.proofs.Steps.{truncate_marks}
use Rattle.conversion_marks.proofs.conversion.mark_truncated.Goals as goal

pub returns : goal.returns
returns g c sign w = c.mark_raised.ensures w ∙ rw (c.mark.ensures w, c.m_known-known.ensures w, c.d_of.ensures.0) (sym (truncate_marks (map_in c.args.marks w) _ sign _ _))
