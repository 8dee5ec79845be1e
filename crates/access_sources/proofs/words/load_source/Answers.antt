use native.Mathlib.Omega.{arith}
use mathlib.Core.Path.{refl, ap, ◌∙◌}
use Rattle.addresses.proofs.Block.{word_bound}
use Rattle.machine.specs.Window.{word_at}
use Rattle.access_sources.proofs.Moving.{load_far, load_none, load_last}
use Rattle.access_sources.proofs.words.load_source.Goals as goal

pub returns-then-q-ge32 : goal.returns-then-q-ge32
returns-then-q-ge32 c = let a = c.args in λ f n k op e g m. load_far f a.base n a.start k op m a.q a.first a.count e g c.if-q-ge32.true

pub returns-then-one-count : goal.returns-then-one-count
returns-then-one-count c = let a = c.args in λ f n k op e g m. load_none f a.base n a.start k op m a.q a.first a.count e g c.requires.0 c.if-q-ge32.false c.if-one-count.true

pub overflow_cast-result-2 : goal.overflow_cast-result-2
overflow_cast-result-2 c = record { fits = omega (arith, c.word_at.ensures, word_bound c.args.base c.plus-address.result) }

pub overflow_add-result : goal.overflow_add-result
overflow_add-result c = omega (arith, c.word_at.ensures, word_bound c.args.base c.plus-address.result)

pub returns : goal.returns
returns c = let a = c.args in λ f n k op e g m. load_last f a.base n a.start k op m a.q a.first a.count e g c.requires.0 c.if-q-ge32.false _ c.word_at.result c.if-one-count.false refl (c.word_at.ensures ∙ ap (word_at a.base) c.plus-address.ensures)
