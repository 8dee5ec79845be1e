use mathlib.Core.Bool.{true, false}
use Rattle.processing.proofs.Arms.{arithmetic, copied, absolute, negated, rooted, compared, compared_zero, converted, from_integer, rounded, truncated, undefined}
use Rattle.processing.proofs.operation.process.Goals as goal

pub returns-in-Fmac : goal.returns-in-Fmac
returns-in-Fmac g c = let a = c.args in arithmetic _ a.op a.s.now a.fpscr _ a.o c.arithmetic_of-kind.ensures c.d_of.ensures.0 c.n_of.ensures.0 c.m_of.ensures.0 c.in-Fmac.in-Fmac-own.keys1 _ c.arithmetic_vector-next.ensures

pub returns-in-Fcpy : goal.returns-in-Fcpy
returns-in-Fcpy g c = let a = c.args in copied _ a.op a.s.now a.fpscr _ a.o c.d_of-in-Fcpy.ensures.0 c.m_of-in-Fcpy.ensures.0 c.in-Fcpy.is (rw c.control_of-control.ensures at c.sign_vector.ensures)

pub returns-in-Fabs : goal.returns-in-Fabs
returns-in-Fabs g c = let a = c.args in absolute _ a.op a.s.now a.fpscr _ a.o c.d_of-in-Fabs.ensures.0 c.m_of-in-Fabs.ensures.0 c.in-Fabs.is (rw c.control_of-control.ensures at c.sign_vector-in-Fabs.ensures)

pub returns-in-Fneg : goal.returns-in-Fneg
returns-in-Fneg g c = let a = c.args in negated _ a.op a.s.now a.fpscr _ a.o c.d_of-in-Fneg.ensures.0 c.m_of-in-Fneg.ensures.0 c.in-Fneg.is (rw c.control_of-control.ensures at c.sign_vector-in-Fneg.ensures)

pub returns-in-Fsqrt : goal.returns-in-Fsqrt
returns-in-Fsqrt g c = let a = c.args in rooted _ a.op a.s.now a.fpscr _ a.o c.d_of-in-Fsqrt.ensures.0 c.m_of-in-Fsqrt.ensures.0 c.in-Fsqrt.is _ (rw c.control_of-control.ensures at c.root_vector-next.ensures)

pub returns-in-Fcmp : goal.returns-in-Fcmp
returns-in-Fcmp g c = let a = c.args in compared _ a.op a.s.now a.fpscr _ a.o c.d_of-in-Fcmp.ensures.0 c.m_of-in-Fcmp.ensures.0 false c.in-Fcmp.is _ c.compare-next.ensures

pub returns-in-Fcmpe : goal.returns-in-Fcmpe
returns-in-Fcmpe g c = let a = c.args in compared _ a.op a.s.now a.fpscr _ a.o c.d_of-in-Fcmpe.ensures.0 c.m_of-in-Fcmpe.ensures.0 true c.in-Fcmpe.is _ c.compare-next-in-Fcmpe.ensures

pub returns-in-Fcmpz : goal.returns-in-Fcmpz
returns-in-Fcmpz g c = let a = c.args in compared_zero _ a.op a.s.now a.fpscr _ a.o c.d_of-in-Fcmpz.ensures.0 false c.in-Fcmpz.is _ c.compare_zero-next.ensures

pub returns-in-Fcmpez : goal.returns-in-Fcmpez
returns-in-Fcmpez g c = let a = c.args in compared_zero _ a.op a.s.now a.fpscr _ a.o c.d_of-in-Fcmpez.ensures.0 true c.in-Fcmpez.is _ c.compare_zero-next-in-Fcmpez.ensures

pub returns-in-Fcvt : goal.returns-in-Fcvt
returns-in-Fcvt g c = let a = c.args in converted _ a.op a.s.now a.fpscr _ a.o c.in-Fcvt.is _ c.convert-next.ensures

pub returns-in-Fuito : goal.returns-in-Fuito
returns-in-Fuito g c = let a = c.args in from_integer _ a.op a.s.now a.fpscr _ a.o c.d_of-in-Fuito.ensures.0 c.m_of-in-Fuito.ensures.0 false c.in-Fuito.is _ c.from_integer-next.ensures

pub returns-in-Fsito : goal.returns-in-Fsito
returns-in-Fsito g c = let a = c.args in from_integer _ a.op a.s.now a.fpscr _ a.o c.d_of-in-Fsito.ensures.0 c.m_of-in-Fsito.ensures.0 true c.in-Fsito.is _ c.from_integer-next-in-Fsito.ensures

pub returns-in-Ftoui : goal.returns-in-Ftoui
returns-in-Ftoui g c = let a = c.args in rounded _ a.op a.s.now a.fpscr _ a.o c.d_of-in-Ftoui.ensures.0 c.m_of-in-Ftoui.ensures.0 false c.in-Ftoui.is _ c.round-next.ensures

pub returns-in-Ftouiz : goal.returns-in-Ftouiz
returns-in-Ftouiz g c = let a = c.args in truncated _ a.op a.s.now a.fpscr _ a.o c.d_of-in-Ftouiz.ensures.0 c.m_of-in-Ftouiz.ensures.0 false c.in-Ftouiz.is _ c.truncate-next.ensures

pub returns-in-Ftosi : goal.returns-in-Ftosi
returns-in-Ftosi g c = let a = c.args in rounded _ a.op a.s.now a.fpscr _ a.o c.d_of-in-Ftosi.ensures.0 c.m_of-in-Ftosi.ensures.0 true c.in-Ftosi.is _ c.round-next-in-Ftosi.ensures

pub returns-in-Ftosiz : goal.returns-in-Ftosiz
returns-in-Ftosiz g c = let a = c.args in truncated _ a.op a.s.now a.fpscr _ a.o c.d_of-in-Ftosiz.ensures.0 c.m_of-in-Ftosiz.ensures.0 true c.in-Ftosiz.is _ c.truncate-next-in-Ftosiz.ensures

pub returns-in-Undefined : goal.returns-in-Undefined
returns-in-Undefined g c = let a = c.args in undefined _ a.op a.s.now a.fpscr a.s.now a.o c.in-Undefined.is
