use Rattle.transfer_mnemonics.specs.Transfer.{transfer_text, transfer_text_by}
use Rattle.transfer_mnemonics.proofs.transfer.transfer.Goals as goal

pub returns-in-System : goal.returns-in-System
unfolding transfer_text transfer_text_by
returns-in-System c = rw (← c.transfer_of-transfer.ensures, c.in-System.is) c.system.ensures

pub returns-in-Single : goal.returns-in-Single
unfolding transfer_text transfer_text_by
returns-in-Single c = rw (← c.transfer_of-transfer.ensures, c.in-Single.is) c.single.ensures

pub returns-in-Nothing : goal.returns-in-Nothing
unfolding transfer_text transfer_text_by
returns-in-Nothing c = rw (← c.transfer_of-transfer.ensures, c.in-Nothing.is) c.add.ensures
