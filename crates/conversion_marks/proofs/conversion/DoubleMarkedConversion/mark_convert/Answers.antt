use mathlib.Core.Path.{sym, ◌∙◌}
use Rattle.place_marks.specs.Word.{map_in}
use Rattle.place_marks.proofs.Places.{place-control}
use Rattle.processing_marks.proofs.Steps.{narrow_marks}
use Rattle.conversion_marks.proofs.conversion.DoubleMarkedConversion.mark_convert.Goals as goal

pub returns : goal.returns
returns c w = c.mark_raised.ensures w ∙ rw (c.mark.ensures w, c.known-known.ensures w, c.is_known.ensures w, place-control, c.d_of.ensures.0, c.m_of.ensures.0) (sym (narrow_marks (map_in c.args.marks w) _ _))
