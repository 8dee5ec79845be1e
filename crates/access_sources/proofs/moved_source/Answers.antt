use mathlib.Core.Path.{sym, ◌∙◌}
use Rattle.addresses.specs.Address.{format_of}
use Rattle.access_sources.proofs.Trees.{pair_tree, moved_tree, load_moved}
use Rattle.access_sources.proofs.moved_source.Goals as goal

pub returns-then-bits-eq98 : goal.returns-then-bits-eq98
returns-then-bits-eq98 c = let a = c.args in λ st e m. pair_tree st m a.q c.pair_source.result (format_of a.double) a.base a.op (sym c.bits.ensures ∙ c.if-bits-eq98.true) (c.pair_source.ensures m)

pub returns-then-bit : goal.returns-then-bit
returns-then-bit c = let a = c.args in λ st e m. moved_tree st m a.q c.load_source.result (format_of a.double) a.base a.op (λ z. c.if-bits-eq98.false (c.bits.ensures ∙ z)) a.value e (load_moved (format_of a.double) a.base _ a.value _ a.op m a.q c.load_source.result c.start_of-start.result c.start_of-start.ensures (sym c.bit.ensures ∙ c.if-bit.true) (c.load_source.ensures (format_of a.double) _ _ a.op c.first_word-first.ensures.0 c.word_count-count.ensures.0 m))

pub returns : goal.returns
returns c = let a = c.args in λ st e m. moved_tree st m a.q c.store_source.result (format_of a.double) a.base a.op (λ z. c.if-bits-eq98.false (c.bits.ensures ∙ z)) a.value e (load_moved (format_of a.double) a.base _ a.value _ a.op m a.q c.store_source.result c.start_of-start.result c.start_of-start.ensures (sym c.bit.ensures ∙ c.if-bit.false) (c.store_source.ensures (format_of a.double) _ _ a.op c.first_word-first.ensures.0 c.word_count-count.ensures.0 m))
