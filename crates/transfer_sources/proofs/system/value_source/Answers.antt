use Rattle.transfer_sources.proofs.Transfers.{value_other, value_one, value_eight, value_none}
use Rattle.transfer_sources.proofs.system.value_source.Goals as goal

pub returns-then-q-rt : goal.returns-then-q-rt
returns-then-q-rt c = let a = c.args in value_other a.marks a.q a.reg a.rt c.requires c.if-q-rt.true

pub returns-in-1 : goal.returns-in-1
returns-in-1 c = let a = c.args in value_one a.marks a.q a.reg a.rt c.requires _ c.if-q-rt.false c.in-1.is c.fpscr_part.ensures

pub returns-in-8 : goal.returns-in-8
returns-in-8 c = let a = c.args in value_eight a.marks a.q a.reg a.rt c.requires c.if-q-rt.false c.in-8.is

pub returns-in_default : goal.returns-in_default
returns-in_default c = let a = c.args in value_none a.marks a.q a.reg a.rt c.requires c.if-q-rt.false c.in_default.in_default-own.rest.0.1 c.in_default.in_default-own.rest.1
