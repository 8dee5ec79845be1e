use mathlib.Core.Path.{sym, ◌∙◌}
use Rattle.place_marks.specs.Word.{map_in}
use Rattle.processing_marks.proofs.Steps.{from_double_marks}
use Rattle.conversion_marks.proofs.conversion.DoubleMarkedConversion.mark_from_integer.Goals as goal

pub returns : goal.returns
returns c sign w = c.mark_raised.ensures w ∙ rw (c.mark.ensures w, c.known-all.ensures w, c.d_of.ensures.0, c.m_of.ensures.0) (sym (from_double_marks (map_in c.args.marks w) sign _ _))
