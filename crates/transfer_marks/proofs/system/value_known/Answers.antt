use Rattle.place_marks.proofs.Places.{place-flags, place-control, place-exc, place-exceptions}
use Rattle.transfer_marks.proofs.system.value_known.Goals as goal

pub returns-in-1 : goal.returns-in-1
returns-in-1 c =
    λ w p. rw (c.in-1.is, c.is_known.ensures w, c.is_known-in-1.ensures w, c.is_known-in-1-2.ensures w, place-exceptions, place-control, place-flags)

pub returns-in-8 : goal.returns-in-8
returns-in-8 c = λ w p. rw (c.in-8.is, c.is_known-in-8.ensures w, place-exc)
