use mathlib.Core.Bool.{true, false}
use mathlib.Core.Path.{sym, ◌∙◌}
use native.Mathlib.Omega.{arith}
use Rattle.word_class.proofs.Classes.{masked_group, masked_access}
use Rattle.word_class.proofs.class.class_of.Goals as goal

pub returns-then-bit : goal.returns-then-bit
returns-then-bit c = let a = c.args in masked_group a.op a.flags (omega arith) true (sym c.if-bit.true ∙ c.bit.ensures) c.if-op-eq3992979968.true

pub returns-then-op-eq3992979968 : goal.returns-then-op-eq3992979968
returns-then-op-eq3992979968 c = let a = c.args in masked_group a.op a.flags (omega arith) false (sym c.if-bit.false ∙ c.bit.ensures) c.if-op-eq3992979968.true

pub returns-then-op-eq3959425536 : goal.returns-then-op-eq3959425536
returns-then-op-eq3959425536 c = let a = c.args in masked_access a.op a.flags (omega arith) c.if-op-eq3959425536.true
