use Rattle.access_sources.proofs.Pairs.{copied_second, copied_first, copied_none}
use Rattle.access_sources.proofs.pair.copied.Goals as goal

pub returns-then-q-x : goal.returns-then-q-x
returns-then-q-x c = let a = c.args in λ m. copied_second a.t a.a a.x a.b a.q m c.if-q-x.true

pub returns-then-q-t : goal.returns-then-q-t
returns-then-q-t c = let a = c.args in λ m. copied_first a.t a.a a.x a.b a.q m c.if-q-x.false c.if-q-t.true

pub returns : goal.returns
returns c = let a = c.args in λ m. copied_none a.t a.a a.x a.b a.q m c.if-q-x.false c.if-q-t.false
