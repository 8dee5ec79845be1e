use Rattle.window_marks.proofs.Bytes.{word_masked}
use Rattle.window_marks.proofs.marks.word_bits_only.Goals as goal

pub returns : goal.returns
returns c = word_masked c.args.w
