use mathlib.Core.Path.{refl, ◌∙◌}
use lib.Ieee.{binary32, binary64}
use Rattle.processing.specs.Data.{data_tree, named_tree}
use Rattle.processing.proofs.Done.{Handled-as, data_single, data_double, data_none}
use Rattle.data_processing.proofs.word.process.Goals as goal

pub returns-then-coproc-eq10 : goal.returns-then-coproc-eq10
returns-then-coproc-eq10 c = let a = c.args in Handled-as (named_tree binary32 a.op a.o) (λ thumb. data_tree thumb a.op) a.op a.s.now a.fpscr _ c.process.result (λ thumb. data_single a.op thumb _ c.bits-coproc.ensures c.if-coproc-eq10.true ∙ rw c.requires) c.process.ensures

pub returns-then-coproc-eq11 : goal.returns-then-coproc-eq11
returns-then-coproc-eq11 c = let a = c.args in Handled-as (named_tree binary64 a.op a.o) (λ thumb. data_tree thumb a.op) a.op a.s.now a.fpscr _ c.process-then-coproc-eq11.result (λ thumb. data_double a.op thumb _ c.bits-coproc.ensures c.if-coproc-eq11.true ∙ rw c.requires) c.process-then-coproc-eq11.ensures

pub returns : goal.returns
returns c = (refl, λ thumb. data_none c.args.op thumb _ c.bits-coproc.ensures c.if-coproc-eq10.false c.if-coproc-eq11.false)
