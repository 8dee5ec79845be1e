use Rattle.sheet.specs.Line.{letter_of}
use Rattle.sheet.proofs.letter.Goals as goal

pub returns-then-known : goal.returns-then-known
unfolding letter_of
returns-then-known c = rw c.if-known.true

pub returns : goal.returns
unfolding letter_of
returns c = rw c.if-known.false
