use mathlib.Core.Bool.{Bool}
use Rattle.sources.proofs.Rules.{as_tested}
use Rattle.sources.specs.Source.{Tracing}
use Rattle.pairs.specs.Pair.{pair_step}
use Rattle.addresses.specs.Address.{format_of}
use Rattle.access_sources.proofs.Pairs.{pair_double}
use Rattle.access_sources.proofs.pair.pair_source.Goals as goal

pub returns-then-double : goal.returns-then-double
returns-then-double c = let a = c.args in λ m. as_tested (λ (b : Bool). Tracing (pair_step (format_of b) a.op) m a.q c.both_source.result) c.if-double.true (pair_double a.op c.bits-m_bit.result c.dreg-dm.result.0 m a.q c.bits-m_bit.ensures c.both_source.result c.dreg-dm.ensures c.low_word.result.0 c.high_word.result.0 c.low_word.ensures c.high_word.ensures (c.both_source.ensures m))
