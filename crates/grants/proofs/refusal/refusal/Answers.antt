use borrow.Author.Tests.{eq-eqb, ne_eqb, lt-ltb, le-ltb, not-true, not-false}
use Rattle.grants.specs.Refusal.{refusal_of}
use Rattle.phases.specs.Round.{sum}
use mathlib.Core.Path.{sym, ◌∙◌}
use native.Mathlib.Omega.{arith}
use Rattle.grants.proofs.refusal.refusal.Goals as goal

pub returns-then-shares-eq0 : goal.returns-then-shares-eq0
unfolding refusal_of
returns-then-shares-eq0 c = rw (eq-eqb _ _ c.if-shares-eq0.true)

pub returns-then-shares-gt8 : goal.returns-then-shares-gt8
unfolding refusal_of
returns-then-shares-gt8 c = rw (ne_eqb _ _ c.if-shares-eq0.false, lt-ltb 8 _ c.if-shares-gt8.true)

pub returns-then-not-is_within : goal.returns-then-not-is_within
unfolding refusal_of
returns-then-not-is_within c = rw (ne_eqb _ _ c.if-shares-eq0.false, le-ltb 8 _ c.if-shares-gt8.false, sym c.is_within.ensures ∙ not-true _ c.if-not-is_within.true-raw)

pub returns-then-wide-total : goal.returns-then-wide-total
unfolding refusal_of
returns-then-wide-total c = rw (ne_eqb _ _ c.if-shares-eq0.false, le-ltb 8 _ c.if-shares-gt8.false, sym c.is_within.ensures ∙ not-false _ c.if-not-is_within.false-raw, lt-ltb c.args.period (sum c.args.shares.now) (omega (arith, c.wide.ensures, c.total.ensures, c.if-wide-total.true)))

pub returns : goal.returns
unfolding refusal_of
returns c = rw (ne_eqb _ _ c.if-shares-eq0.false, le-ltb 8 _ c.if-shares-gt8.false, sym c.is_within.ensures ∙ not-false _ c.if-not-is_within.false-raw, le-ltb c.args.period (sum c.args.shares.now) (omega (arith, c.wide.ensures, c.total.ensures, c.if-wide-total.false)))
