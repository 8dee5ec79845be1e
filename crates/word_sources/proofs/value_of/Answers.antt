use mathlib.Core.Path.{refl, sym, ◌∙◌}
use borrow.Author.Tests.{eq-eqb, ne_eqb}
use Rattle.word_sources.proofs.value_of.Goals as goal

pub returns-then-bits-eq6 : goal.returns-then-bits-eq6
returns-then-bits-eq6 c = rw (eq-eqb _ 0b110 (sym c.bits.ensures ∙ c.if-bits-eq6.true), ← c.bits-rn.ensures) refl

pub returns : goal.returns
returns c = rw (ne_eqb _ 0b110 (λ z. c.if-bits-eq6.false (c.bits.ensures ∙ z))) refl
