use borrow.Author.Rules.{rules}
use Rattle.place_marks.proofs.Word.{mark_in}
use Rattle.place_marks.proofs.Replaced.{set_one}
use Rattle.place_marks.proofs.place.set_known.Goals as goal

pub returns : goal.returns
returns c w = let a = c.args in rw (c.bit_of-bit.ensures, set_one a.marks a.n a.b (search rules)) (mark_in a.marks w a.b a.n (search rules))
