use native.Mathlib.Omega.{arith}
use mathlib.Core.Path.{sym, ◌∙◌}
use Rattle.access_sources.proofs.Pairs.{pair_load, pair_store}
use Rattle.access_sources.proofs.pair.both_source.Goals as goal

pub returns-then-bit : goal.returns-then-bit
returns-then-bit c = let a = c.args in λ m. pair_load a.op a.first.0 a.second.0 c.bits.result c.bits-2.result c.bits.ensures c.bits-2.ensures (omega (arith, c.bits.ensures)) (omega (arith, c.bits-2.ensures)) a.q m c.copied.result (sym c.bit.ensures ∙ c.if-bit.true) (c.copied.ensures m)

pub returns : goal.returns
returns c = let a = c.args in λ m. pair_store a.op a.first.0 a.second.0 c.bits.result c.bits-2.result c.bits.ensures c.bits-2.ensures (omega (arith, c.bits.ensures)) (omega (arith, c.bits-2.ensures)) a.q m c.copied-2.result (sym c.bit.ensures ∙ c.if-bit.false) (c.copied-2.ensures m)
