use Rattle.transfer_sources.proofs.Transfers.{written_flags, written_control, written_exceptions, written_other, written_exc, written_other_exc}
use Rattle.transfer_sources.proofs.system.written_source.Goals as goal

pub returns-then-q : goal.returns-then-q
returns-then-q c = let a = c.args in λ m. written_flags m a.q a.reg a.rt c.requires c.if-reg-eq1.true c.if-q.true

pub returns-then-q-2 : goal.returns-then-q-2
returns-then-q-2 c = let a = c.args in λ m. written_control m a.q a.reg a.rt c.requires c.if-reg-eq1.true c.if-q-2.true

pub returns-then-q-3 : goal.returns-then-q-3
returns-then-q-3 c = let a = c.args in λ m. written_exceptions m a.q a.reg a.rt c.requires c.if-reg-eq1.true c.if-q-3.true

pub returns-then-reg-eq1 : goal.returns-then-reg-eq1
returns-then-reg-eq1 c = let a = c.args in λ m. written_other m a.q a.reg a.rt c.requires c.if-reg-eq1.true c.if-q.false c.if-q-2.false c.if-q-3.false

pub returns-then-q-4 : goal.returns-then-q-4
returns-then-q-4 c = let a = c.args in λ m. written_exc m a.q a.reg a.rt c.requires c.if-reg-eq8.true c.if-q-4.true

pub returns-then-reg-eq8 : goal.returns-then-reg-eq8
returns-then-reg-eq8 c = let a = c.args in λ m. written_other_exc m a.q a.reg a.rt c.requires c.if-reg-eq8.true c.if-q-4.false
