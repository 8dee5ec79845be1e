use Rattle.word_class.specs.Word.{exempt}
use Rattle.word_class.proofs.enable.is_exempt.Goals as goal

pub returns : goal.returns
unfolding exempt
returns c = rw (← c.bits-register.ensures, ← c.bits.ensures, ← c.bit.ensures, ← c.bits-2.ensures)
