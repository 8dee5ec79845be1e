use Rattle.place_marks.proofs.Places.{place-flags, place-exc}
use Rattle.transfer_marks.proofs.system.flags_known.Goals as goal

pub returns-in-1 : goal.returns-in-1
returns-in-1 c = λ w. rw (c.in-1.is, c.is_known.ensures w, place-flags)

pub returns-in-8 : goal.returns-in-8
returns-in-8 c = λ w. rw (c.in-8.is, c.is_known-in-8.ensures w, place-exc)
