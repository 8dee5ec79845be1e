use Rattle.data_sources.proofs.Trees.{single_data, double_data, undefined_data}
use Rattle.data_sources.proofs.data_back.Goals as goal

pub returns-then-coproc-eq10 : goal.returns-then-coproc-eq10
returns-then-coproc-eq10 c = let a = c.args in λ st e. single_data st a.index a.marks a.q a.k _ _ c.operation_back.result a.op c.bits-coproc.result a.n c.bits-coproc.ensures c.requires.0 c.if-coproc-eq10.true (c.operation_back.ensures st e)

pub returns-then-coproc-eq11 : goal.returns-then-coproc-eq11
returns-then-coproc-eq11 c = let a = c.args in λ st e. double_data st a.index a.marks a.q a.k _ _ c.operation_back-then-coproc-eq11.result a.op c.bits-coproc.result a.n c.bits-coproc.ensures c.requires.0 c.if-coproc-eq11.true (c.operation_back-then-coproc-eq11.ensures st e)

pub returns : goal.returns
returns c = let a = c.args in λ st e. undefined_data st a.op c.bits-coproc.result a.index a.marks a.q a.k _ c.bits-coproc.ensures c.if-coproc-eq10.false c.if-coproc-eq11.false
