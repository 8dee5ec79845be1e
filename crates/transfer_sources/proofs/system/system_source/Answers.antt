use mathlib.Core.Path.{sym, ◌∙◌}
use Rattle.transfer_sources.proofs.Transfers.{system_flags, system_value, system_written}
use Rattle.transfer_sources.proofs.system.system_source.Goals as goal

pub returns-then-rt-eq15 : goal.returns-then-rt-eq15
returns-then-rt-eq15 c = let a = c.args in λ st. system_flags a.op a.marks a.q c.flags_source.result st (sym c.bit.ensures ∙ c.if-bit.true) c.bits-rt.result c.bits-reg.result c.bits-rt.ensures c.bits-reg.ensures c.if-rt-eq15.true (c.flags_source.ensures a.marks)

pub returns-then-bit : goal.returns-then-bit
returns-then-bit c = let a = c.args in λ st. system_value a.op a.marks a.q c.value_source.result st (sym c.bit.ensures ∙ c.if-bit.true) c.bits-rt.result c.bits-reg.result c.bits-rt.ensures c.bits-reg.ensures c.if-rt-eq15.false c.value_source.ensures

pub returns : goal.returns
returns c = let a = c.args in λ st. system_written a.op a.marks a.q c.written_source.result st (sym c.bit.ensures ∙ c.if-bit.false) c.bits-rt.result c.bits-reg.result c.bits-rt.ensures c.bits-reg.ensures (c.written_source.ensures a.marks)
