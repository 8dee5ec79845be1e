use Rattle.transfer_sources.proofs.Transfers.{flags_other, flags_one, flags_eight}
use Rattle.transfer_sources.proofs.system.flags_source.Goals as goal

pub returns-then-q : goal.returns-then-q
returns-then-q c = let a = c.args in λ m. flags_other m a.q a.reg c.if-q.true

pub returns-in-1 : goal.returns-in-1
returns-in-1 c = let a = c.args in λ m. flags_one m a.q a.reg c.if-q.false c.in-1.is

pub returns-in-8 : goal.returns-in-8
returns-in-8 c = let a = c.args in λ m. flags_eight m a.q a.reg c.if-q.false c.in-8.is
