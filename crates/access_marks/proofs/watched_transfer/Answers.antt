use mathlib.Core.Path.{sym, ◌∙◌}
use Rattle.bits.specs.Field.{field, bit_of}
use Rattle.registers.specs.Registers.{reg_of}
use Rattle.addresses.specs.Address.{format_of, count_of}
use Rattle.memory.proofs.Doubles as words
use Rattle.access_marks.proofs.Doubles.{in_words}
use Rattle.access_marks.proofs.watched_transfer.Goals as goal

pub returns : goal.returns
returns c = (λ q. (rw (c.first_word-first.ensures.0, c.word_count-count.ensures.0) at (c.watched_words.ensures.0 q)) ∙ sym (words.in_words (bit_of c.args.op 20) c.args.base (reg_of (format_of c.args.double) (field c.args.op 12 15) (field c.args.op 22 22)) c.args.start (format_of c.args.double) (count_of (format_of c.args.double) c.args.op) _), (rw (c.first_word-first.ensures.0, c.word_count-count.ensures.0) at c.watched_words.ensures.1) ∙ sym (in_words (bit_of c.args.op 20) c.args.base (reg_of (format_of c.args.double) (field c.args.op 12 15) (field c.args.op 22 22)) c.args.start (format_of c.args.double) (count_of (format_of c.args.double) c.args.op) _), c.watched_words.ensures.2)
