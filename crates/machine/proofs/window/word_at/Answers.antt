use Rattle.machine.specs.Window.{word_at}
use Rattle.machine.proofs.window.word_at.Goals as goal

pub returns : goal.returns
unfolding word_at
returns c = rw (c.index.ensures, c.minus.ensures)
