use Rattle.sources.proofs.Rules.{copy_target}
use Rattle.sources.proofs.rule.copy_of.Goals as goal

pub returns : goal.returns
returns c = let a = c.args in λ x r m. copy_target x m a.q a.first a.words a.from r c.if-q-first.false c.if-q-first-2.false
