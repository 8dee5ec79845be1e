use borrow.Author.Tests.{ne_eqb}
use mathlib.Core.Path.{refl, sym, ◌∙◌}
use Rattle.bits.specs.Field.{field}
use Rattle.machine.specs.Machine.{assembled}
use Rattle.transfers.proofs.SystemRegisters.{read_core, read_flags_lem, write_fpscr}
use Rattle.machine.specs.Place.{state}
use Rattle.meaning.proofs.Laws.{plain-once}
use Rattle.transfers.proofs.system.system.Goals as goal

pub returns-then-rt-eq15 : goal.returns-then-rt-eq15
returns-then-rt-eq15 c = λ s v thumb. rw (sym c.bit.ensures ∙ c.if-bit.true, sym c.bits-rt.ensures ∙ c.if-rt-eq15.true) (plain-once _ _ _ (rw (c.from_bits.ensures, c.system_value-value.ensures, c.bits-reg.ensures) (read_flags_lem (field c.args.op 16 19) (state (assembled s c.args.r.now c.args.x thumb) v))))

pub returns-then-bit : goal.returns-then-bit
returns-then-bit c = λ s v thumb. rw (sym c.bit.ensures ∙ c.if-bit.true, ne_eqb _ _ (rw c.bits-rt.ensures at c.if-rt-eq15.false)) (plain-once _ _ _ (rw (c.system_value-value.ensures, c.bits-reg.ensures, c.bits-rt.ensures) (read_core (field c.args.op 16 19) (field c.args.op 12 15) (state (assembled s c.args.r.now c.args.x thumb) v))))

pub returns-then-reg-eq1 : goal.returns-then-reg-eq1
returns-then-reg-eq1 c = λ s v thumb. rw (sym c.bit.ensures ∙ c.if-bit.false, sym c.bits-reg.ensures ∙ c.if-reg-eq1.true) (plain-once _ _ _ (rw c.bits-rt.ensures (write_fpscr (field c.args.op 12 15) (state (assembled s c.args.r.now c.args.x thumb) v))))

pub returns-then-reg-eq8 : goal.returns-then-reg-eq8
returns-then-reg-eq8 c = λ s v thumb. rw (sym c.bit.ensures ∙ c.if-bit.false, sym c.bits-reg.ensures ∙ c.if-reg-eq8.true) (plain-once _ _ _ (rw c.bits-rt.ensures))

pub returns : goal.returns
returns c = λ s v thumb. rw (sym c.bit.ensures ∙ c.if-bit.false, ne_eqb _ _ (rw c.bits-reg.ensures at c.if-reg-eq1.false), ne_eqb _ _ (rw c.bits-reg.ensures at c.if-reg-eq8.false)) (plain-once _ _ _ refl)
