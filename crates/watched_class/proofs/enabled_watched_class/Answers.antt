use Rattle.place_marks.proofs.Places.{place-exc}
use Rattle.watched_class.proofs.Classes.{surely_on, not_surely}
use Rattle.watched_class.proofs.enabled_watched_class.Goals as goal

pub returns-then-is_known-bit : goal.returns-then-is_known-bit
returns-then-is_known-bit c w = surely_on c.is_known.result c.bit.result _ _ (rw place-exc at (c.is_known.ensures w)) c.bit.ensures _ _ _ c.if-is_known-bit.true (c.watched_class.ensures w)

pub returns : goal.returns
returns c w = not_surely c.is_known.result c.bit.result _ _ (rw place-exc at (c.is_known.ensures w)) c.bit.ensures _ _ _ c.if-is_known-bit.false (c.disabled_watched_class.ensures w)
