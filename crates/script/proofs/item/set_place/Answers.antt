use Rattle.std.proofs.Common.{◌∙◌, ap, sym}
use Rattle.script.specs.Layout.{layout_of}
use Rattle.script.specs.Step.{On}
use Rattle.script.specs.Item.{outcome, set_outcome}
use Rattle.script.proofs.item.set_place.Goals as goal

pub returns-then-is_place : goal.returns-then-is_place
unfolding set_outcome
returns-then-is_place c = λ μ l.
    rw (sym (rw c.words-words.ensures at c.is_place.ensures) ∙ c.if-is_place.true) (ap (outcome (On (layout_of c.args.layout))) (c.put_place.ensures μ l))

pub returns : goal.returns
unfolding set_outcome
returns c = λ μ l. rw (c.words-words.ensures, sym (rw c.words-words.ensures at c.is_place.ensures) ∙ c.if-is_place.false)
