use Rattle.calls.specs.Outcome.{valid_origin}
use borrow.Author.Tests.{le-ltb, lt-ltb, eq-eqb, ne_eqb}
use native.Mathlib.Omega.{arith}
use Rattle.calls.proofs.place_origin.is_valid_origin.Goals as goal

pub returns-then-thumb-gt1 : goal.returns-then-thumb-gt1
unfolding valid_origin
returns-then-thumb-gt1 c = rw (le-ltb c.args.thumb 2 c.if-thumb-gt1.true)

pub returns-then-words-ne8 : goal.returns-then-words-ne8
unfolding valid_origin
returns-then-words-ne8 c = rw (lt-ltb c.args.thumb 2 (omega arith), ne_eqb _ _ c.if-words-ne8.true)

pub returns-then-numbers-ne0 : goal.returns-then-numbers-ne0
unfolding valid_origin
returns-then-numbers-ne0 c = rw (lt-ltb c.args.thumb 2 (omega arith), eq-eqb _ _ c.if-words-ne8.false, ne_eqb _ _ c.if-numbers-ne0.true)

pub returns : goal.returns
unfolding valid_origin
returns c = rw (lt-ltb c.args.thumb 2 (omega arith), eq-eqb _ _ c.if-words-ne8.false, eq-eqb _ _ c.if-numbers-ne0.false) c.is_valid.ensures
