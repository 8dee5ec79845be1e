use Rattle.std.proofs.Common.{sym, ◌∙◌, arith}
use Rattle.sums.proofs.Align.{add_room, sub_room}
use Rattle.sums.proofs.Numbers.{wide, sum_is, difference_is}
use Rattle.sums.proofs.sum.ordered_sum.Goals as goal

pub overflow_sub-result : goal.overflow_sub-result
overflow_sub-result c =
    let a = c.args in
    let p = c.requires.digits in
    let q = c.requires.exponents in
    let far = wide a.s a.t a.a a.ea a.b a.eb _ _ p.0 p.1 p.2 q.0 q.1 q.2 c.align-w.ensures in
    (sub_room a.a a.b _ _ _ p.0 p.1 p.2 c.align-w.ensures far).0

pub returns-then-unlike : goal.returns-then-unlike
returns-then-unlike c =
    let a = c.args in
    let p = c.requires.digits in
    let q = c.requires.exponents in
    difference_is a.s a.t a.a a.ea a.b a.eb _ _ p.0 p.1 p.2 q.0 q.1 q.2 c.align-w.ensures (sym c.unlike.ensures ∙ c.if-unlike.true)

pub returns : goal.returns
returns c =
    let a = c.args in
    let p = c.requires.digits in
    let q = c.requires.exponents in
    sum_is a.s a.t a.a a.ea a.b a.eb _ _ p.0 p.1 p.2 q.0 q.1 q.2 c.align-w.ensures (sym c.unlike.ensures ∙ c.if-unlike.false)
