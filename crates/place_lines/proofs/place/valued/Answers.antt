use Rattle.place_lines.specs.Place.{value_text}
use Rattle.place_lines.proofs.place.valued.Goals as goal

pub returns-then-known : goal.returns-then-known
unfolding value_text
returns-then-known c = rw c.if-known.true c.add_hex.ensures

pub returns : goal.returns
unfolding value_text
returns c = rw c.if-known.false c.add.ensures
