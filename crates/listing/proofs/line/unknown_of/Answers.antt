use Rattle.listing.specs.Line.{unknown_of}
use Rattle.listing.proofs.Items.{blank_is}
use Rattle.listing.proofs.line.unknown_of.Goals as goal

pub returns-then-is_empty : goal.returns-then-is_empty
unfolding unknown_of
returns-then-is_empty c = rw (← blank_is c.args.rest.now c.first.ensures.word c.first.ensures.rest, ← c.if-is_empty.ensures)

pub returns-else-is_empty : goal.returns-else-is_empty
unfolding unknown_of
returns-else-is_empty c = rw (← blank_is c.args.rest.now c.first.ensures.word c.first.ensures.rest, ← c.if-is_empty.ensures)
