use Rattle.sources.proofs.Rules.{rule_raised, rule_itself, rule_target}
use Rattle.sources.proofs.rule.source_of.Goals as goal

pub returns-then-is_known : goal.returns-then-is_known
returns-then-is_known c = let a = c.args in λ x s t r f g. rule_raised x a.marks a.q a.first a.words s t r a.raised c.if-q.true _ c.is_known.ensures c.if-is_known.true g

pub returns-then-q : goal.returns-then-q
returns-then-q c = let a = c.args in λ x s t r f g. rule_itself x a.marks a.q a.first a.words s t r c.if-q.true _ c.is_known.ensures c.if-is_known.false

pub returns : goal.returns
returns c = let a = c.args in λ x s t r f g. rule_target x a.marks a.q a.first a.words s t r a.from c.if-q-first.false c.if-q-first-2.false f
