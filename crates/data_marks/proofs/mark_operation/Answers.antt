use Rattle.processing_marks.proofs.Done as D
use Rattle.data_marks.proofs.mark_operation.Goals as goal

pub returns-in-Fmac : goal.returns-in-Fmac
returns-in-Fmac g c = let a = c.args in D.arithmetic _ a.op a.fpscr a.marks _ a.o _ c.arithmetic_of.ensures c.in-Fmac.in-Fmac-own.keys1 (rw c.control_of-control.ensures at c.mark_arithmetic.ensures)

pub returns-in-Fcpy : goal.returns-in-Fcpy
returns-in-Fcpy g c = let a = c.args in D.signed _ a.op a.fpscr a.marks _ a.o c.in-Fcpy.in-Fcpy-own.keys2 (rw c.control_of-control.ensures at c.mark_signs.ensures)

pub returns-in-Fsqrt : goal.returns-in-Fsqrt
returns-in-Fsqrt g c = let a = c.args in D.rooted _ a.op a.fpscr a.marks _ a.o c.in-Fsqrt.is (rw c.control_of-control.ensures at c.mark_roots.ensures)

pub returns-in-Fcmp : goal.returns-in-Fcmp
returns-in-Fcmp g c = let a = c.args in D.compared _ a.op a.fpscr a.marks _ a.o c.in-Fcmp.in-Fcmp-own.keys4 c.mark_compare.ensures

pub returns-in-Fcmpz : goal.returns-in-Fcmpz
returns-in-Fcmpz g c = let a = c.args in D.compared_zero _ a.op a.fpscr a.marks _ a.o c.in-Fcmpz.in-Fcmpz-own.keys5 c.mark_compare_zero.ensures

pub returns-in-Fcvt : goal.returns-in-Fcvt
returns-in-Fcvt g c = let a = c.args in D.converted _ a.op a.fpscr a.marks _ a.o c.in-Fcvt.is c.mark_convert.ensures

pub returns-in-Fuito : goal.returns-in-Fuito
returns-in-Fuito g c = let a = c.args in D.from_integer _ a.op a.fpscr a.marks _ a.o c.in-Fuito.in-Fuito-own.keys7 c.mark_from_integer.ensures

pub returns-in-Ftoui : goal.returns-in-Ftoui
returns-in-Ftoui g c = let a = c.args in D.rounded _ a.op a.fpscr a.marks _ a.o c.in-Ftoui.in-Ftoui-own.keys8 c.mark_rounded.ensures

pub returns-in-Ftouiz : goal.returns-in-Ftouiz
returns-in-Ftouiz g c = let a = c.args in D.truncated _ a.op a.fpscr a.marks _ a.o c.in-Ftouiz.in-Ftouiz-own.keys9 c.mark_truncated.ensures

pub returns-in-Undefined : goal.returns-in-Undefined
returns-in-Undefined g c = let a = c.args in D.undefined _ a.op a.fpscr a.marks a.o c.in-Undefined.is
