use Rattle.access_sources.proofs.Trees.{single_tree, double_tree, no_tree}
use Rattle.access_sources.proofs.access_source.Goals as goal

pub returns-then-coproc-eq10 : goal.returns-then-coproc-eq10
returns-then-coproc-eq10 c = let a = c.args in λ st e m. single_tree st m a.q c.moved_source.result a.base a.op c.bits-coproc.result c.bits-coproc.ensures c.if-coproc-eq10.true (c.moved_source.ensures st e m)

pub returns-then-coproc-eq11 : goal.returns-then-coproc-eq11
returns-then-coproc-eq11 c = let a = c.args in λ st e m. double_tree st m a.q c.moved_source-then-coproc-eq11.result a.base a.op c.bits-coproc.result c.bits-coproc.ensures c.if-coproc-eq11.true (c.moved_source-then-coproc-eq11.ensures st e m)

pub returns : goal.returns
returns c = let a = c.args in λ st e m. no_tree st m a.q a.base a.op c.bits-coproc.result c.bits-coproc.ensures c.if-coproc-eq10.false c.if-coproc-eq11.false
