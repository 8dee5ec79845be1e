use borrow.Author.Tests.{ne_eqb}
use Rattle.disassembly.specs.Line.{word_text}
use Rattle.disassembly.proofs.line.word.Goals as goal

pub returns-then-foreign : goal.returns-then-foreign
unfolding word_text
returns-then-foreign c = rw (← c.foreign.ensures, c.if-foreign.true) c.add.ensures

pub returns-then-bits-eq6 : goal.returns-then-bits-eq6
unfolding word_text
returns-then-bits-eq6 c = rw (← c.foreign.ensures, c.if-foreign.false, ← c.bits.ensures, c.if-bits-eq6.true, ← c.bit-double.ensures) c.load_store.ensures

pub returns-then-bit : goal.returns-then-bit
unfolding word_text
returns-then-bit c = rw (← c.foreign.ensures, c.if-foreign.false, ← c.bits.ensures, ne_eqb _ _ c.if-bits-eq6.false, ← c.bit.ensures, c.if-bit.true) c.transfer.ensures

pub returns : goal.returns
unfolding word_text
returns c = rw (← c.foreign.ensures, c.if-foreign.false, ← c.bits.ensures, ne_eqb _ _ c.if-bits-eq6.false, ← c.bit.ensures, c.if-bit.false, ← c.bit-double.ensures, ← c.operation.ensures) c.«data».ensures
