use Rattle.transfers.proofs.Transfers.{by_transfer}
use Rattle.meaning.proofs.Laws.{plain-nothing}
use mathlib.Core.Bool.{false}
use mathlib.Core.Path.{sym, ◌∙◌}
use Rattle.run_word.proofs.word.transfer.Goals as goal

pub returns-then-single_core : goal.returns-then-single_core
returns-then-single_core c = λ v. rw (by_transfer _ false c.args.op (sym c.transfer_of-transfer.ensures ∙ c.in-Single.is)) (rw c.if-single_core.true at (c.single_core.ensures c.args.x v))

pub returns-in-System : goal.returns-in-System
returns-in-System c = λ v. rw (by_transfer _ false c.args.op (sym c.transfer_of-transfer.ensures ∙ c.in-System.is)) (c.system.ensures _ _ _)

pub returns-else-single_core : goal.returns-else-single_core
returns-else-single_core c = λ v. rw (by_transfer _ false c.args.op (sym c.transfer_of-transfer.ensures ∙ c.in-Single.is)) (rw c.if-single_core.false at (c.single_core.ensures c.args.x v))

pub returns-in-Nothing : goal.returns-in-Nothing
returns-in-Nothing c = λ v. rw (by_transfer _ false c.args.op (sym c.transfer_of-transfer.ensures ∙ c.in-Nothing.is)) (plain-nothing _)
