use mathlib.Core.Path.{sym, ◌∙◌}
use Rattle.place_marks.specs.Word.{map_in}
use Rattle.place_marks.proofs.Places.{place-control}
use Rattle.processing_marks.proofs.Steps.{round_marks}
use Rattle.conversion_marks.proofs.conversion.mark_rounded.Goals as goal

pub returns : goal.returns
returns g c sign w = c.mark_raised.ensures w ∙ rw (c.mark.ensures w, c.m_known.ensures w, c.is_known.ensures w, place-control, c.d_of.ensures.0) (sym (round_marks (map_in c.args.marks w) _ sign _ _))
