use borrow.Author.Tests.{ne_eqb, eq-eqb}
use mathlib.Core.Path.{sym, ◌∙◌}
use native.Mathlib.Omega.{arith}
use Rattle.limits.specs.Limit.{watch_limit}
use Rattle.limits.proofs.limit.watch_limit.Goals as goal

pub returns-then-number-ne0 : goal.returns-then-number-ne0
unfolding watch_limit
returns-then-number-ne0 c = (rw (← c.run_limit-number.ensures, ne_eqb _ _ c.if-number-ne0.true), λ e. absurd (c.if-number-ne0.true e))

pub returns-then-marks-words : goal.returns-then-marks-words
unfolding watch_limit
returns-then-marks-words c = (rw (← c.run_limit-number.ensures, c.if-number-ne0.false, ne_eqb _ _ c.if-marks-words.true), λ e. absurd (omega (arith, e)))

pub returns-then-counted : goal.returns-then-counted
unfolding watch_limit
returns-then-counted c = (rw (← c.run_limit-number.ensures, c.if-number-ne0.false, eq-eqb _ _ c.if-marks-words.false, sym c.count_bits-counted.ensures.0 ∙ c.if-counted.true), λ e. c.count_bits-counted.ensures.1 c.if-counted.true)

pub returns : goal.returns
unfolding watch_limit
returns c = (rw (← c.run_limit-number.ensures, c.if-number-ne0.false, eq-eqb _ _ c.if-marks-words.false, sym c.count_bits-counted.ensures.0 ∙ c.if-counted.false), λ e. absurd (omega (arith, e)))
