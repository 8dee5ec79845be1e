use lib.Ieee.{binary32, binary64}
use Rattle.processing.specs.Data.{data_tree, named_tree}
use Rattle.processing.proofs.Done.{data_single, data_double, data_none}
use Rattle.processing_marks.proofs.Done.{Marked-as, undefined_Marked}
use Rattle.data_marks.proofs.mark_data.Goals as goal

pub returns-then-coproc-eq10 : goal.returns-then-coproc-eq10
returns-then-coproc-eq10 c = let a = c.args in Marked-as (named_tree binary32 a.op a.o) (λ thumb. data_tree thumb a.op) a.fpscr a.marks _ (λ thumb. rw (← c.requires) at (data_single a.op thumb _ c.bits-coproc.ensures c.if-coproc-eq10.true)) c.mark_operation.ensures

pub returns-then-coproc-eq11 : goal.returns-then-coproc-eq11
returns-then-coproc-eq11 c = let a = c.args in Marked-as (named_tree binary64 a.op a.o) (λ thumb. data_tree thumb a.op) a.fpscr a.marks _ (λ thumb. rw (← c.requires) at (data_double a.op thumb _ c.bits-coproc.ensures c.if-coproc-eq11.true)) c.mark_operation-then-coproc-eq11.ensures

pub returns : goal.returns
returns c = let a = c.args in undefined_Marked a.fpscr a.marks (λ thumb. data_tree thumb a.op) a.op (λ thumb. data_none a.op thumb _ c.bits-coproc.ensures c.if-coproc-eq10.false c.if-coproc-eq11.false)
