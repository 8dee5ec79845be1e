use borrow.Author.Tests.{ne_eqb}
use Rattle.access_mnemonics.specs.LoadStore.{load_store_text}
use Rattle.access_mnemonics.proofs.load_store.load_store.Goals as goal

pub returns-then-bits-eq98 : goal.returns-then-bits-eq98
unfolding load_store_text
returns-then-bits-eq98 c = rw (← c.bits.ensures, c.if-bits-eq98.true) c.pair.ensures

pub returns-then-bit-2 : goal.returns-then-bit-2
unfolding load_store_text
returns-then-bit-2 c = rw (← c.bits.ensures, ne_eqb _ _ c.if-bits-eq98.false, ← c.bit.ensures, c.if-bit.true, ← c.bit-then-bit.ensures, c.if-bit-2.true) c.several.ensures

pub returns-then-bit : goal.returns-then-bit
unfolding load_store_text
returns-then-bit c = rw (← c.bits.ensures, ne_eqb _ _ c.if-bits-eq98.false, ← c.bit.ensures, c.if-bit.true, ← c.bit-then-bit.ensures, c.if-bit-2.false) c.one_register.ensures

pub returns : goal.returns
unfolding load_store_text
returns c = rw (← c.bits.ensures, ne_eqb _ _ c.if-bits-eq98.false, ← c.bit.ensures, c.if-bit.false) c.several-2.ensures
