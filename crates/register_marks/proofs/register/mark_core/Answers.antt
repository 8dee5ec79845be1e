use borrow.Author.Rules.{rules}
use Rattle.place_marks.proofs.Places.{place-core}
use Rattle.register_marks.proofs.register.mark_core.Goals as goal

pub returns : goal.returns
returns c w = rw (place-core c.args.n (search rules)) at (c.set_known.ensures w)
