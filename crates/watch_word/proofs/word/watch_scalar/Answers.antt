use lib.Ieee.{binary32, binary64}
use mathlib.Core.Path.{refl}
use native.Mathlib.Omega.{arith}
use Rattle.run_word.proofs.Scalars.{is_unary, double_tree, single_tree}
use Rattle.watch_word.proofs.Scalar.{scalar_seen}
use Rattle.watch_word.proofs.word.watch_scalar.Goals as goal

pub returns-then-bit : goal.returns-then-bit
returns-then-bit c = let a = c.args in λ r v u. scalar_seen a.op a.n _ c.requires.0 refl c.requires.2 binary64 (double_tree a.op a.n _ c.requires.0 refl c.requires.1 c.bit.result c.bit.ensures c.if-bit.true) a.s.now r a.x _ a.marks _ _ c.done.result c.done.ensures v u (c.requires.4 u) c.watched_scalar-y.ensures

pub returns-then-n-lt10 : goal.returns-then-n-lt10
returns-then-n-lt10 c = let a = c.args in λ r v u. scalar_seen a.op a.n _ c.requires.0 refl c.requires.2 binary32 (single_tree a.op a.n _ c.requires.0 refl c.requires.1 c.bit.result c.bit.ensures c.if-bit.false) a.s.now r a.x _ a.marks _ _ c.done-then-n-lt10.result c.done-then-n-lt10.ensures v u (c.requires.4 u) c.watched_scalar-y-then-n-lt10.ensures

pub watched_unary-y-requires : goal.watched_unary-y-requires
watched_unary-y-requires c = let a = c.args in (is_unary a.op a.n c.from.result c.requires.0 c.from.ensures (omega arith), c.requires.3)

pub returns-then-bit-2 : goal.returns-then-bit-2
returns-then-bit-2 c = let a = c.args in λ r v u. scalar_seen a.op a.n c.from.result c.requires.0 c.from.ensures c.requires.2 binary64 (double_tree a.op a.n c.from.result c.requires.0 c.from.ensures c.requires.1 c.bit-2.result c.bit-2.ensures c.if-bit-2.true) a.s.now r a.x _ a.marks _ _ c.done-then-bit-2.result c.done-then-bit-2.ensures v u (c.requires.4 u) c.watched_unary-y.ensures

pub watched_unary-y-requires-2 : goal.watched_unary-y-requires-2
watched_unary-y-requires-2 c = let a = c.args in (is_unary a.op a.n c.from-2.result c.requires.0 c.from-2.ensures (omega arith), c.requires.3)

pub returns : goal.returns
returns c = let a = c.args in λ r v u. scalar_seen a.op a.n c.from-2.result c.requires.0 c.from-2.ensures c.requires.2 binary32 (single_tree a.op a.n c.from-2.result c.requires.0 c.from-2.ensures c.requires.1 c.bit-2.result c.bit-2.ensures c.if-bit-2.false) a.s.now r a.x _ a.marks _ _ c.done-2.result c.done-2.ensures v u (c.requires.4 u) c.watched_unary-y-2.ensures
