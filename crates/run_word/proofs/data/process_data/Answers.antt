use mathlib.Core.Path.{refl}
use native.Mathlib.Omega.{arith}
use Rattle.run_word.proofs.Scalars.{the_operation, is_unary, as_double, as_single, goes_on}
use Rattle.run_word.proofs.data.process_data.Goals as goal

pub steps-requires : goal.steps-requires
steps-requires c = the_operation c.args.op c.number-n.result c.from.result c.number-n.ensures c.from.ensures

pub steps-requires-then-fpscr-ne0 : goal.steps-requires-then-fpscr-ne0
steps-requires-then-fpscr-ne0 c = the_operation c.args.op c.number-n.result c.from-then-fpscr-ne0.result c.number-n.ensures c.from-then-fpscr-ne0.ensures

pub returns-then-bit : goal.returns-then-bit
returns-then-bit c = let a = c.args in goes_on a.op a.s.now a.r.now a.x _ _ c.done.result c.done.ensures (as_double a.op c.number-n.result _ c.number-n.ensures refl c.requires.1 c.bit.result c.bit.ensures a.s.now a.x.fpscr c.scalar.new.s _ c.if-bit.true c.scalar.ensures)

pub returns-then-n-lt10 : goal.returns-then-n-lt10
returns-then-n-lt10 c = let a = c.args in goes_on a.op a.s.now a.r.now a.x _ _ c.done-then-n-lt10.result c.done-then-n-lt10.ensures (as_single a.op c.number-n.result _ c.number-n.ensures refl c.requires.1 c.bit.result c.bit.ensures a.s.now a.x.fpscr c.scalar-then-n-lt10.new.s _ c.if-bit.false c.scalar-then-n-lt10.ensures)

pub unary-requires : goal.unary-requires
unary-requires c = (is_unary c.args.op c.number-n.result c.from-then-bit-2.result c.number-n.ensures c.from-then-bit-2.ensures (omega arith), omega arith)

pub returns-then-bit-2 : goal.returns-then-bit-2
returns-then-bit-2 c = let a = c.args in goes_on a.op a.s.now a.r.now a.x _ _ c.done-then-bit-2.result c.done-then-bit-2.ensures (as_double a.op c.number-n.result c.from-then-bit-2.result c.number-n.ensures c.from-then-bit-2.ensures c.requires.1 c.bit-2.result c.bit-2.ensures a.s.now a.x.fpscr c.unary.new.s _ c.if-bit-2.true c.unary.ensures)

pub unary-requires-2 : goal.unary-requires-2
unary-requires-2 c = (is_unary c.args.op c.number-n.result c.from-2.result c.number-n.ensures c.from-2.ensures (omega arith), omega arith)

pub returns : goal.returns
returns c = let a = c.args in goes_on a.op a.s.now a.r.now a.x _ _ c.done-2.result c.done-2.ensures (as_single a.op c.number-n.result c.from-2.result c.number-n.ensures c.from-2.ensures c.requires.1 c.bit-2.result c.bit-2.ensures a.s.now a.x.fpscr c.unary-2.new.s _ c.if-bit-2.false c.unary-2.ensures)
