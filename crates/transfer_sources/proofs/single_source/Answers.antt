use native.Mathlib.Omega.{arith}
use mathlib.Core.Path.{sym, ◌∙◌}
use Rattle.transfer_sources.proofs.Transfers.{core_from, core_kept, single_from, single_kept}
use Rattle.transfer_sources.proofs.single_source.Goals as goal

pub returns-then-q-t : goal.returns-then-q-t
returns-then-q-t c = let a = c.args in λ thumb st m. core_from a.op a.sn.0 a.q c.bits.result (omega (arith, c.bits.ensures)) c.bits.ensures thumb st m (sym c.bit.ensures ∙ c.if-bit.true) c.if-q-t.true

pub returns-then-bit : goal.returns-then-bit
returns-then-bit c = let a = c.args in λ thumb st m. core_kept a.op a.sn.0 a.q c.bits.result (omega (arith, c.bits.ensures)) c.bits.ensures thumb st m (sym c.bit.ensures ∙ c.if-bit.true) c.if-q-t.false

pub returns-then-q-s : goal.returns-then-q-s
returns-then-q-s c = let a = c.args in λ thumb st m. single_from a.op a.sn.0 a.q c.bits.result (omega (arith, c.bits.ensures)) c.bits.ensures thumb st m (sym c.bit.ensures ∙ c.if-bit.false) c.if-q-s.true

pub returns : goal.returns
returns c = let a = c.args in λ thumb st m. single_kept a.op a.sn.0 a.q c.bits.result (omega (arith, c.bits.ensures)) c.bits.ensures thumb st m (sym c.bit.ensures ∙ c.if-bit.false) c.if-q-s.false
