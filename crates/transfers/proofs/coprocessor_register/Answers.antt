use Rattle.transfers.specs.Transfer.{transfer_tree}
use Rattle.meaning.proofs.Laws.{plain-nothing}
use mathlib.Core.Path.{sym, ◌∙◌}
use Rattle.transfers.proofs.coprocessor_register.Goals as goal

pub returns-in-System : goal.returns-in-System
unfolding transfer_tree
returns-in-System c = λ v. rw (sym c.transfer_of-transfer.ensures ∙ c.in-System.is) (c.system.ensures _ _ _)

pub returns-in-Single : goal.returns-in-Single
unfolding transfer_tree
returns-in-Single c = λ v. rw (sym c.transfer_of-transfer.ensures ∙ c.in-Single.is) (c.single_core.ensures _ _)

pub returns-in-Nothing : goal.returns-in-Nothing
unfolding transfer_tree
returns-in-Nothing c = λ v. rw (sym c.transfer_of-transfer.ensures ∙ c.in-Nothing.is) (plain-nothing _)
