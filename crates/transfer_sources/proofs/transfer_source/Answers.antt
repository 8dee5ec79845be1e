use mathlib.Core.Path.{sym, ◌∙◌}
use Rattle.sources.proofs.Rules.{nothing-Leading}
use Rattle.chains.specs.Steps.{act_of}
use Rattle.transfers.specs.Transfer.{transfer_tree}
use Rattle.transfer_sources.proofs.transfer_source.Goals as goal

pub returns-in-System : goal.returns-in-System
unfolding transfer_tree
returns-in-System c = λ thumb st. rw (sym c.transfer_of-transfer.ensures ∙ c.in-System.is) (c.system_source.ensures st)

pub returns-in-Single : goal.returns-in-Single
unfolding transfer_tree
returns-in-Single c = let a = c.args in λ thumb st. rw (sym c.transfer_of-transfer.ensures ∙ c.in-Single.is) (c.single_source.ensures thumb st a.marks)

pub returns-in-Nothing : goal.returns-in-Nothing
unfolding transfer_tree act_of
returns-in-Nothing c = let a = c.args in λ thumb st. rw (sym c.transfer_of-transfer.ensures ∙ c.in-Nothing.is) (nothing-Leading a.marks a.q)
