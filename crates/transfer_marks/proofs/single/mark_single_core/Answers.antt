use mathlib.Core.Path.{sym, ◌∙◌}
use Rattle.place_marks.specs.Word.{map_in}
use Rattle.meaning.proofs.Laws.{marked-once}
use Rattle.transfer_marks.proofs.Transfers.{read_single}
use Rattle.transfer_marks.proofs.single.mark_single_core.Goals as goal

pub returns-then-bit : goal.returns-then-bit
returns-then-bit c = λ thumb st w. rw (sym c.bit.ensures ∙ c.if-bit.true) (read_single thumb _ _ st (map_in c.args.marks w) _ (rw (c.known.ensures w, c.bits-rt.ensures) at (c.mark_core.ensures w)))

pub returns : goal.returns
returns c = λ thumb st w. rw (sym c.bit.ensures ∙ c.if-bit.false) (marked-once _ _ _ _ (rw (c.core_known.ensures w, c.bits-rt.ensures) at (c.mark.ensures w)))
