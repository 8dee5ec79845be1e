use borrow.Enum.Refused.{opened}
use Rattle.short_vectors.specs.Vector.{precision}
use Rattle.data_sources.proofs.Trees.{compared, compared_zero, converted, from_integer, rounded, truncated, stepping_only}
use Rattle.data_sources.proofs.once.once_source.Goals as goal

pub returns-in-Fcmp : goal.returns-in-Fcmp
returns-in-Fcmp c = let a = c.args in λ thumb st h. compared (precision a.double) a.op a.marks a.q a.o c.compare.result thumb st c.in-Fcmp.in-Fcmp-own.keys1 c.compare.ensures

pub returns-in-Fcmpz : goal.returns-in-Fcmpz
returns-in-Fcmpz c = let a = c.args in λ thumb st h. compared_zero (precision a.double) a.op a.marks a.q a.o c.compare_zero.result thumb st c.in-Fcmpz.in-Fcmpz-own.keys2 c.compare_zero.ensures

pub returns-in-Fcvt : goal.returns-in-Fcvt
returns-in-Fcvt c = let a = c.args in λ thumb st h. converted (precision a.double) a.op a.marks a.q a.o c.converted.result thumb st c.in-Fcvt.is c.converted.ensures

pub returns-in-Fuito : goal.returns-in-Fuito
returns-in-Fuito c = let a = c.args in λ thumb st h. from_integer (precision a.double) a.op a.marks a.q a.o c.from_integer.result thumb st c.in-Fuito.in-Fuito-own.keys4 c.from_integer.ensures

pub returns-in-Ftoui : goal.returns-in-Ftoui
returns-in-Ftoui c = let a = c.args in λ thumb st h. rounded (precision a.double) a.op a.marks a.q a.o c.rounded.result thumb st c.in-Ftoui.in-Ftoui-own.keys5 c.rounded.ensures

pub returns-in-Ftouiz : goal.returns-in-Ftouiz
returns-in-Ftouiz c = let a = c.args in λ thumb st h. truncated (precision a.double) a.op a.marks a.q a.o c.truncated.result thumb st c.in-Ftouiz.in-Ftouiz-own.keys6 c.truncated.ensures

pub returns-in-Undefined : goal.returns-in-Undefined
returns-in-Undefined c = let a = c.args in λ thumb st h. stepping_only a.o (opened c.in-Undefined.in-Undefined-own.keys7) h
