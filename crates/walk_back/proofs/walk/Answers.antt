use Rattle.walk_back.proofs.Walking.{Walking-end, Walking-again, Walking-start}
use mathlib.Core.Bool.{false}
use mathlib.Core.Path.{refl, ◌∙◌}
use native.Mathlib.Omega.{arith}
use Rattle.walk_back.proofs.walk.Goals as goal

pub loop-j-init : goal.loop-j-init
loop-j-init c = let a = c.args in (omega arith, refl, omega arith, λ st μ g o u. Walking-end a.base a.list.now st μ a.q a.pairs.now a.count g.ran u)

pub bounds-log_marks-j : goal.bounds-log_marks-j
bounds-log_marks-j c = omega (arith, c.requires.2)

pub bounds-log_values-j : goal.bounds-log_values-j
bounds-log_values-j c = omega (arith, c.requires.2)

pub bounds-log_skips-j : goal.bounds-log_skips-j
bounds-log_skips-j c = omega (arith, c.requires.2)

pub bounds-list-j : goal.bounds-list-j
bounds-list-j c = omega (arith, c.requires.1)

pub overflow_cast-j : goal.overflow_cast-j
overflow_cast-j c = omega (arith, c.requires.2)

pub logged_back-y-requires : goal.logged_back-y-requires
logged_back-y-requires c = (c.requires.0, omega (arith, c.loop-j.invariant.2, c.loop-j.invariant.1, c.requires.3))

pub loop-j-preserved : goal.loop-j-preserved
loop-j-preserved c = let a = c.args in let l = c.loop-j in (omega (arith, l.invariant.0), c.logged_back-y.auto.pairs ∙ l.invariant.1, omega (arith, l.invariant.2, c.logged_back-y.ensures.0), λ st μ g o u. Walking-again a.base a.list.now st μ a.q a.pairs.now a.count _ _ _ g o l.j l.at l.k _ _ c.logged_back-y.result c.loop-j-test.true l.invariant.0 (l.invariant.3 st μ g o u) c.logged_back-y.ensures.1)

pub turn-requires : goal.turn-requires
turn-requires c = omega (arith, c.loop-j.invariant.2, c.loop-j.invariant.1, c.requires.3)

pub returns : goal.returns
returns c = let a = c.args in let l = c.loop-j in λ st μ g o u. Walking-start a.base a.list.now st μ a.q a.pairs.now a.count l.j l.at l.k _ _ (omega (arith, l.invariant.2)) c.requires.3 c.loop-j-test.false (l.invariant.3 st μ g o u) c.turn.ensures
