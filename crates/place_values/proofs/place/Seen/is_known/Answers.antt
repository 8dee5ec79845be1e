use Rattle.place_values.specs.Place.{known_at}
use borrow.Author.Tests.{lt-ltb, le-ltb}
use mathlib.Core.List.{[]}
use mathlib.Core.Path.{◌∙◌}
use Rattle.place_marks.proofs.Word.{known_in_lem}
use Rattle.place_values.proofs.place.Seen.is_known.Goals as goal

pub returns-then-p-lt-WINDOW : goal.returns-then-p-lt-WINDOW
unfolding known_at
returns-then-p-lt-WINDOW c = rw (lt-ltb _ _ c.if-p-lt-WINDOW.true) (c.is_known.ensures [] ∙ known_in_lem _ [] _ c.if-p-lt-WINDOW.true)

pub returns : goal.returns
unfolding known_at
returns c = rw (le-ltb _ _ c.if-p-lt-WINDOW.false) c.marked.ensures
