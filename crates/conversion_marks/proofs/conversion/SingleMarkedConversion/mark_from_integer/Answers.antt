use mathlib.Core.Path.{sym, ◌∙◌}
use Rattle.place_marks.specs.Word.{map_in}
use Rattle.place_marks.proofs.Places.{place-control}
use Rattle.processing_marks.proofs.Steps.{from_single_marks}
use Rattle.conversion_marks.proofs.conversion.SingleMarkedConversion.mark_from_integer.Goals as goal

pub returns : goal.returns
returns c sign w = c.mark_raised.ensures w ∙ rw (c.mark.ensures w, c.known-all.ensures w, c.is_known.ensures w, place-control, c.d_of.ensures.0, c.m_of.ensures.0) (sym (from_single_marks (map_in c.args.marks w) sign _ _))
