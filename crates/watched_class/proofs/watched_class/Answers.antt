use Prim.Native.Nat.{ℕ}
use mathlib.Core.Bool.{true, false}
use mathlib.Core.Path.{sym, ◌∙◌, ap}
use native.Mathlib.Omega.{arith}
use Rattle.bits.specs.Psr.{holds}
use Rattle.machine.specs.Place.{nzcv}
use Rattle.meaning.specs.Map.{known}
use Rattle.place_marks.proofs.Places.{place-nzcv}
use Rattle.place_marks.specs.Word.{map_in}
use Rattle.word_class.proofs.Classes.{masked_group, masked_access, class_skipped, class_access, class_group}
use Rattle.word_class.proofs.Words.{condition_field}
use Rattle.watched_class.proofs.Classes.{group_always, access_always, told_always, told_known, told_hangs}
use Rattle.watched_class.proofs.watched_class.Goals as goal

pub returns-then-bit : goal.returns-then-bit
returns-then-bit c = let a = c.args in λ w. told_always a.op a.flags (known (map_in a.marks w) nzcv) _ (masked_group a.op a.flags (omega arith) true (sym c.if-bit.true ∙ c.bit.ensures) c.if-op-eq3992979968.true) (group_always a.op c.if-op-eq3992979968.true)

pub returns-then-op-eq3992979968 : goal.returns-then-op-eq3992979968
returns-then-op-eq3992979968 c = let a = c.args in λ w. told_always a.op a.flags (known (map_in a.marks w) nzcv) _ (masked_group a.op a.flags (omega arith) false (sym c.if-bit.false ∙ c.bit.ensures) c.if-op-eq3992979968.true) (group_always a.op c.if-op-eq3992979968.true)

pub returns-then-op-eq3959425536 : goal.returns-then-op-eq3959425536
returns-then-op-eq3959425536 c = let a = c.args in λ w. told_always a.op a.flags (known (map_in a.marks w) nzcv) _ (masked_access a.op a.flags (omega arith) c.if-op-eq3959425536.true) (access_always a.op c.if-op-eq3959425536.true)

pub returns-then-condition-is_known : goal.returns-then-condition-is_known
returns-then-condition-is_known c = let a = c.args in λ w. told_hangs a.op a.flags (known (map_in a.marks w) nzcv) c.foreign.result c.foreign.ensures c.if-foreign.false c.bits-condition.result c.bits-condition.ensures c.is_known.result (rw place-nzcv at (c.is_known.ensures w)) c.if-condition-is_known.true

pub returns-then-not-check_condition : goal.returns-then-not-check_condition
returns-then-not-check_condition c = let a = c.args in λ w. told_known a.op a.flags (known (map_in a.marks w) nzcv) _ (class_skipped a.op a.flags c.foreign.result c.foreign.ensures c.if-foreign.false c.check_condition.result (c.check_condition.ensures ∙ ap (λ (k : ℕ). holds k a.flags) (condition_field a.op _ c.bits-condition.ensures)) c.if-not-check_condition.true-raw) c.bits-condition.result c.bits-condition.ensures c.is_known.result (rw place-nzcv at (c.is_known.ensures w)) c.if-condition-is_known.false

pub returns-then-bits-eq6 : goal.returns-then-bits-eq6
returns-then-bits-eq6 c = let a = c.args in λ w. told_known a.op a.flags (known (map_in a.marks w) nzcv) _ (class_access a.op a.flags c.foreign.result c.foreign.ensures c.if-foreign.false c.check_condition.result (c.check_condition.ensures ∙ ap (λ (k : ℕ). holds k a.flags) (condition_field a.op _ c.bits-condition.ensures)) c.if-not-check_condition.false-raw c.bits.result c.bits.ensures c.if-bits-eq6.true) c.bits-condition.result c.bits-condition.ensures c.is_known.result (rw place-nzcv at (c.is_known.ensures w)) c.if-condition-is_known.false

pub returns-then-bit-2 : goal.returns-then-bit-2
returns-then-bit-2 c = let a = c.args in λ w. told_known a.op a.flags (known (map_in a.marks w) nzcv) _ (class_group a.op a.flags c.foreign.result c.foreign.ensures c.if-foreign.false c.check_condition.result (c.check_condition.ensures ∙ ap (λ (k : ℕ). holds k a.flags) (condition_field a.op _ c.bits-condition.ensures)) c.if-not-check_condition.false-raw c.bits.result c.bits.ensures c.if-bits-eq6.false true (sym c.if-bit-2.true ∙ c.bit-2.ensures)) c.bits-condition.result c.bits-condition.ensures c.is_known.result (rw place-nzcv at (c.is_known.ensures w)) c.if-condition-is_known.false

pub returns : goal.returns
returns c = let a = c.args in λ w. told_known a.op a.flags (known (map_in a.marks w) nzcv) _ (class_group a.op a.flags c.foreign.result c.foreign.ensures c.if-foreign.false c.check_condition.result (c.check_condition.ensures ∙ ap (λ (k : ℕ). holds k a.flags) (condition_field a.op _ c.bits-condition.ensures)) c.if-not-check_condition.false-raw c.bits.result c.bits.ensures c.if-bits-eq6.false false (sym c.if-bit-2.false ∙ c.bit-2.ensures)) c.bits-condition.result c.bits-condition.ensures c.is_known.result (rw place-nzcv at (c.is_known.ensures w)) c.if-condition-is_known.false
