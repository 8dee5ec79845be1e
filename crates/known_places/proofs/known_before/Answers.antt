use Rattle.known_places.proofs.Count.{before_counted, before-le}
use Rattle.known_places.proofs.known_before.Goals as goal

pub returns : goal.returns
returns c = (before_counted c.args.marks, before-le c.args.marks)
