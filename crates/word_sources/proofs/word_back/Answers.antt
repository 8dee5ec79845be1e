use mathlib.Core.Path.{sym, ◌∙◌}
use Rattle.word_sources.proofs.Classed.{link_few, Walked-few, accessed, transferred, processed}
use Rattle.word_sources.proofs.word_back.Goals as goal

pub returns-then-bits-eq6 : goal.returns-then-bits-eq6
returns-then-bits-eq6 c = let a = c.args in (link_few c.access_source-s.result a.q a.k c.link.result c.link.ensures.0, λ st v. accessed a.base a.op st a.index a.marks a.q a.k _ _ c.link.result c.access_source-s.result a.value c.bits.result c.bits.ensures c.if-bits-eq6.true v c.link.ensures c.access_source-s.ensures)

pub returns-then-bit : goal.returns-then-bit
returns-then-bit c = let a = c.args in (link_few c.transfer_source-s.result a.q a.k c.link-then-bit.result c.link-then-bit.ensures.0, λ st v. transferred a.base a.op st a.index a.marks a.q a.k _ _ c.link-then-bit.result c.transfer_source-s.result c.bits.result c.bits.ensures c.if-bits-eq6.false (sym c.bit.ensures ∙ c.if-bit.true) c.link-then-bit.ensures c.transfer_source-s.ensures)

pub returns : goal.returns
returns c = let a = c.args in (Walked-few a.op a.value a.index a.marks a.q a.k _ _ _ c.data_back.ensures, λ st v. processed a.base a.op st a.index a.marks a.q a.k _ _ c.data_back.result a.value c.bits.result c.bits.ensures c.if-bits-eq6.false (sym c.bit.ensures ∙ c.if-bit.false) v c.data_back.ensures)
