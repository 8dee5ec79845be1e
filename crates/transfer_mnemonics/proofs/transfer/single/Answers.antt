use borrow.Author.Rules.{rules}
use Rattle.transfer_mnemonics.specs.Transfer.{single_text}
use Rattle.transfer_mnemonics.proofs.transfer.single.Goals as goal

pub returns-then-is_high_half : goal.returns-then-is_high_half
unfolding single_text
returns-then-is_high_half c = search rules

pub returns : goal.returns
unfolding single_text
returns c = rw (← c.is_high_half.ensures, c.if-is_high_half.false, ← c.n_of-n.ensures.0) c.moved-2.ensures
