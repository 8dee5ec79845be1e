use native.Mathlib.Omega.{arith}
use borrow.Author.Tests.{lt-ltb, le-ltb, eq-eqb, ne_eqb}
use Rattle.outcomes.specs.Outcome.{valid_call}
use Rattle.calls.proofs.state.is_valid_call.Goals as goal

pub returns-then-thumb-gt1 : goal.returns-then-thumb-gt1
unfolding valid_call
returns-then-thumb-gt1 c = rw (le-ltb c.args.thumb 2 c.if-thumb-gt1.true)

pub returns-then-words-ne5 : goal.returns-then-words-ne5
unfolding valid_call
returns-then-words-ne5 c = rw (lt-ltb c.args.thumb 2 (omega arith), ne_eqb _ _ c.if-words-ne5.true)

pub returns : goal.returns
unfolding valid_call
returns c = rw (lt-ltb c.args.thumb 2 (omega arith), eq-eqb _ _ c.if-words-ne5.false) c.is_valid.ensures
