use mathlib.Core.Path.{sym}
use borrow.Author.Rules.{rules}
use Rattle.place_marks.proofs.Word.{known_in_lem}
use Rattle.place_marks.proofs.place.is_known.Goals as goal

pub returns : goal.returns
returns c w = sym (known_in_lem c.args.marks w c.args.n (search rules))
