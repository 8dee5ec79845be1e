use borrow.Author.Tests.{eq-eqb, ne_eqb}
use Rattle.outcomes.specs.Replay.{valid_replay}
use Rattle.calls.proofs.recorded.is_valid_replay.Goals as goal

pub returns-then-words-ne-WINDOW : goal.returns-then-words-ne-WINDOW
unfolding valid_replay
returns-then-words-ne-WINDOW c = rw (ne_eqb _ _ c.if-words-ne-WINDOW.true)

pub returns : goal.returns
unfolding valid_replay
returns c = rw (eq-eqb _ _ c.if-words-ne-WINDOW.false)
