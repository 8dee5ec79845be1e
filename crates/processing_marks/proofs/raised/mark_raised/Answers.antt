use mathlib.Core.Path.{◌∙◌}
use Rattle.place_marks.proofs.Places.{place-exceptions}
use Rattle.processing_marks.proofs.raised.mark_raised.Goals as goal

pub returns : goal.returns
returns c w = rw c.if-all.false (c.set_known.ensures w ∙ rw place-exceptions)
