use native.Mathlib.Omega.{arith}
use mathlib.Core.Path.{refl}
use Rattle.addresses.proofs.Block.{word_bound}
use Rattle.access_sources.proofs.Moving.{store_far, store_beyond, store_none, store_last}
use Rattle.access_sources.proofs.words.store_source.Goals as goal

pub returns-then-q : goal.returns-then-q
returns-then-q c = let a = c.args in λ f n k op e g m. store_far f a.base n a.start k op m a.q a.first a.count e g c.if-q.true

pub returns-then-v-ge1073741824 : goal.returns-then-v-ge1073741824
returns-then-v-ge1073741824 c = let a = c.args in λ f n k op e g m. store_beyond f a.base n a.start k op m a.q a.first a.count e g c.if-q.false c.if-v-ge1073741824.true

pub overflow_cast-one : goal.overflow_cast-one
overflow_cast-one c = record { fits = omega (arith, c.word_at.ensures, word_bound c.args.base c.args.start) }

pub overflow_sub-one : goal.overflow_sub-one
overflow_sub-one c = omega (arith, c.word_at.ensures, word_bound c.args.base c.args.start)

pub returns-then-one-count : goal.returns-then-one-count
returns-then-one-count c = let a = c.args in λ f n k op e g m. store_none f a.base n a.start k op m a.q a.first a.count e g c.if-q.false c.if-v-ge1073741824.false c.word_at.result c.word_at.ensures c.requires.1 c.if-one-count.true

pub returns : goal.returns
returns c = let a = c.args in λ f n k op e g m. store_last f a.base n a.start k op m a.q a.first a.count e g c.if-q.false c.if-v-ge1073741824.false c.word_at.result c.word_at.ensures c.requires.1 _ refl c.if-one-count.false
