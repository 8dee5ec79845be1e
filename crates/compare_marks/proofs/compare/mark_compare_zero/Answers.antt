use mathlib.Core.Path.{sym, ◌∙◌}
use Rattle.place_marks.specs.Word.{map_in}
use Rattle.place_marks.proofs.Places.{place-flags}
use Rattle.processing_marks.proofs.Steps.{compare_zero_marks}
use Rattle.compare_marks.proofs.compare.mark_compare_zero.Goals as goal

pub returns : goal.returns
returns g c any w = c.mark_raised.ensures w ∙ rw (c.set_known.ensures w, place-flags, c.d_known-all.ensures w) (sym (compare_zero_marks (map_in c.args.marks w) _ any _))
