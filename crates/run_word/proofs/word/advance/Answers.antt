use Rattle.run_word.proofs.word.advance.Goals as goal

pub returns : goal.returns
returns c = rw c.plus.ensures
