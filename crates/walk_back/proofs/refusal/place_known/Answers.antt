use Rattle.walk_back.proofs.Refusals.{window_place}
use Rattle.walk_back.proofs.refusal.place_known.Goals as goal

pub returns-then-n-lt-WINDOW : goal.returns-then-n-lt-WINDOW
returns-then-n-lt-WINDOW c = c.is_known.ensures c.args.window_marks.now

pub returns : goal.returns
returns c = window_place c.args.marks c.args.window_marks.now c.args.n c.if-n-lt-WINDOW.false c.requires
