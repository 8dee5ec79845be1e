use borrow.Author.Tests.{lt-ltb, le-ltb, eq-eqb, ne_eqb}
use Rattle.limits.specs.Limit.{window_limit}
use Rattle.limits.proofs.limit.window_limit.Goals as goal

pub returns-then-words-gt16384 : goal.returns-then-words-gt16384
unfolding window_limit
returns-then-words-gt16384 c = rw (lt-ltb _ _ c.if-words-gt16384.true)

pub returns-then-base-ne0 : goal.returns-then-base-ne0
unfolding window_limit
returns-then-base-ne0 c = rw (le-ltb _ _ c.if-words-gt16384.false, ne_eqb _ _ c.if-base-ne0.true)

pub returns-then-base-words-gt4294967296 : goal.returns-then-base-words-gt4294967296
unfolding window_limit
returns-then-base-words-gt4294967296 c = rw (le-ltb _ _ c.if-words-gt16384.false, eq-eqb _ _ c.if-base-ne0.false, lt-ltb _ _ c.if-base-words-gt4294967296.true)

pub returns : goal.returns
unfolding window_limit
returns c = rw (le-ltb _ _ c.if-words-gt16384.false, eq-eqb _ _ c.if-base-ne0.false, le-ltb _ _ c.if-base-words-gt4294967296.false)
