use mathlib.Core.Path.{refl, sym, ◌∙◌}
use borrow.Author.Tests.{ne_eqb}
use Rattle.machine.specs.Place.{core}
use Rattle.bits.specs.Field.{field}
use Rattle.place_marks.proofs.Places.{place-flags, place-control, place-exc, place-nzcv, place-exceptions}
use Rattle.place_marks.specs.Word.{map_in}
use Rattle.meaning.proofs.Laws.{marked-once}
use Rattle.transfer_marks.proofs.Transfers.{read_core, read_flags_lem}
use Rattle.transfer_marks.proofs.system.mark_system.Goals as goal

pub returns-then-rt-eq15 : goal.returns-then-rt-eq15
returns-then-rt-eq15 c = λ st w. rw (sym c.bit.ensures ∙ c.if-bit.true, sym c.bits-rt.ensures ∙ c.if-rt-eq15.true) (marked-once _ _ _ _ ((rw place-nzcv at (c.set_known.ensures w)) ∙ read_flags_lem (field c.args.op 16 19) (map_in c.args.marks w) _ (rw c.bits-reg.ensures at (c.flags_known.ensures w))))

pub returns-then-bit : goal.returns-then-bit
returns-then-bit c = λ st w. rw (sym c.bit.ensures ∙ c.if-bit.true, ne_eqb _ _ (rw c.bits-rt.ensures at c.if-rt-eq15.false)) (marked-once _ _ _ _ ((rw c.bits-rt.ensures at (c.mark_core.ensures w)) ∙ read_core (field c.args.op 16 19) (field c.args.op 12 15) (map_in c.args.marks w) _ (rw c.bits-reg.ensures at (c.value_known.ensures w (core (field c.args.op 12 15))))))

pub returns-then-reg-eq1 : goal.returns-then-reg-eq1
returns-then-reg-eq1 c = λ st w. rw (sym c.bit.ensures ∙ c.if-bit.false, sym c.bits-reg.ensures ∙ c.if-reg-eq1.true) (marked-once _ _ _ _ (rw (place-exceptions, c.set_known-z.ensures w, place-control, c.set_known-y.ensures w, place-flags, c.core_known-b.ensures w, c.bits-rt.ensures) at (c.set_known-then-reg-eq1.ensures w)))

pub returns-then-reg-eq8 : goal.returns-then-reg-eq8
returns-then-reg-eq8 c = λ st w. rw (sym c.bit.ensures ∙ c.if-bit.false, sym c.bits-reg.ensures ∙ c.if-reg-eq8.true) (marked-once _ _ _ _ (rw (place-exc, c.core_known-b.ensures w, c.bits-rt.ensures) at (c.set_known-then-reg-eq8.ensures w)))

pub returns : goal.returns
returns c = λ st w. rw (sym c.bit.ensures ∙ c.if-bit.false, ne_eqb _ _ (rw c.bits-reg.ensures at c.if-reg-eq1.false), ne_eqb _ _ (rw c.bits-reg.ensures at c.if-reg-eq8.false)) (marked-once _ _ _ _ refl)
