use Rattle.listing.specs.Line.{ended_of}
use Rattle.listing.proofs.Items.{blank_is}
use Rattle.listing.proofs.line.ended.Goals as goal

pub returns-then-is_empty : goal.returns-then-is_empty
unfolding ended_of
returns-then-is_empty c = rw (← blank_is c.args.rest.now c.first.ensures.word c.first.ensures.rest, ← c.if-is_empty.ensures)

pub returns-else-is_empty : goal.returns-else-is_empty
unfolding ended_of
returns-else-is_empty c = rw (← blank_is c.args.rest.now c.first.ensures.word c.first.ensures.rest, ← c.if-is_empty.ensures)
