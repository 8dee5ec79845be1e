use mathlib.Core.Path.{sym, ◌∙◌}
use Rattle.limits.proofs.Limits.{arm}
use Rattle.run.proofs.Replies.{turned, allowed}
use Rattle.machine.specs.Place.{state}
use Rattle.run.proofs.run.Goals as goal

pub returns-then-limit-ne0 : goal.returns-then-limit-ne0
returns-then-limit-ne0 c = turned c.args.base c.args.list.now (state c.args.machine c.args.window.now) c.run_limit-limit.result c.run_limit-limit.ensures c.if-limit-ne0.true

pub run_words-requires : goal.run_words-requires
run_words-requires c = (arm _ _ _ _ (sym c.run_limit-limit.ensures ∙ c.if-limit-ne0.false), c.operations-table.ensures)

pub returns : goal.returns
returns c = let a = c.args in allowed a.base a.list.now (state a.machine a.window.now) c.run_limit-limit.result c.run_limit-limit.ensures _ c.if-limit-ne0.false c.run_words.ensures
