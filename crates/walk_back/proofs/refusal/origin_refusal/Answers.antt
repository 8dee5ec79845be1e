use Rattle.walk_back.proofs.Refusals.{beyond, is_known, too_short, none}
use Rattle.walk_back.proofs.refusal.origin_refusal.Goals as goal

pub returns-then-window_marks-at : goal.returns-then-window_marks-at
returns-then-window_marks-at c = let a = c.args in beyond a.q a.marks a.window_marks.now a.count a.numbers c.if-window_marks-at.true

pub returns-then-place_known : goal.returns-then-place_known
returns-then-place_known c = let a = c.args in is_known a.q a.marks a.window_marks.now a.count a.numbers c.if-window_marks-at.false _ c.place_known.ensures c.if-place_known.true

pub returns-then-numbers-count : goal.returns-then-numbers-count
returns-then-numbers-count c = let a = c.args in too_short a.q a.marks a.window_marks.now a.count a.numbers c.if-window_marks-at.false _ c.place_known.ensures c.if-place_known.false c.if-numbers-count.true

pub returns : goal.returns
returns c = let a = c.args in none a.q a.marks a.window_marks.now a.count a.numbers c.if-window_marks-at.false _ c.place_known.ensures c.if-place_known.false c.if-numbers-count.false
