use Prim.Native.Nat.{ℕ}
use native.Mathlib.Omega.{arith}
use mathlib.Core.Path.{◌∙◌, ap}
use borrow.Author.Tests.{not-true, not-false}
use Rattle.bits.specs.Psr.{holds}
use Rattle.place_marks.specs.Word.{map_in}
use Rattle.place_marks.proofs.Places.{place-exc, place-nzcv, place-core}
use Rattle.word_class.proofs.Words.{condition_field}
use Rattle.watched_class.proofs.Classes.{off_hangs, off_skipped, off_class}
use Rattle.watched_class.proofs.disabled_watched_class.Goals as goal

pub returns-then-code-is_known : goal.returns-then-code-is_known
returns-then-code-is_known c w = off_hangs c.args.op c.args.flags (map_in c.args.marks w) c.foreign.result c.foreign.ensures c.if-foreign.false c.bits-code.result c.bits-code.ensures c.is_known.result (rw place-nzcv at (c.is_known.ensures w)) c.if-code-is_known.true

pub returns-then-not-check_condition : goal.returns-then-not-check_condition
returns-then-not-check_condition c w = off_skipped c.args.op c.args.flags (map_in c.args.marks w) c.foreign.result c.foreign.ensures c.if-foreign.false c.bits-code.result c.bits-code.ensures c.is_known.result (rw place-nzcv at (c.is_known.ensures w)) c.if-code-is_known.false c.check_condition.result (c.check_condition.ensures ∙ ap (λ (k : ℕ). holds k c.args.flags) (condition_field c.args.op _ c.bits-code.ensures)) (not-true _ c.if-not-check_condition.true-raw)

pub returns-then-is_exempt : goal.returns-then-is_exempt
returns-then-is_exempt c w = off_class c.args.op c.args.flags (map_in c.args.marks w) c.foreign.result c.foreign.ensures c.if-foreign.false c.bits-code.result c.bits-code.ensures c.is_known.result (rw place-nzcv at (c.is_known.ensures w)) c.if-code-is_known.false c.check_condition.result (c.check_condition.ensures ∙ ap (λ (k : ℕ). holds k c.args.flags) (condition_field c.args.op _ c.bits-code.ensures)) (not-false _ c.if-not-check_condition.false-raw) _ (rw (← c.is_exempt.ensures, c.if-is_exempt.true))

pub returns-then-not-is_known : goal.returns-then-not-is_known
returns-then-not-is_known c w = off_class c.args.op c.args.flags (map_in c.args.marks w) c.foreign.result c.foreign.ensures c.if-foreign.false c.bits-code.result c.bits-code.ensures c.is_known.result (rw place-nzcv at (c.is_known.ensures w)) c.if-code-is_known.false c.check_condition.result (c.check_condition.ensures ∙ ap (λ (k : ℕ). holds k c.args.flags) (condition_field c.args.op _ c.bits-code.ensures)) (not-false _ c.if-not-check_condition.false-raw) _ (rw (← c.is_exempt.ensures, c.if-is_exempt.false, ← rw place-exc at (c.is_known-2.ensures w), not-true c.is_known-2.result c.if-not-is_known.true-raw))

pub returns-then-is_known : goal.returns-then-is_known
returns-then-is_known c w = off_class c.args.op c.args.flags (map_in c.args.marks w) c.foreign.result c.foreign.ensures c.if-foreign.false c.bits-code.result c.bits-code.ensures c.is_known.result (rw place-nzcv at (c.is_known.ensures w)) c.if-code-is_known.false c.check_condition.result (c.check_condition.ensures ∙ ap (λ (k : ℕ). holds k c.args.flags) (condition_field c.args.op _ c.bits-code.ensures)) (not-false _ c.if-not-check_condition.false-raw) _ (rw (← c.is_exempt.ensures, c.if-is_exempt.false, ← rw place-exc at (c.is_known-2.ensures w), not-false c.is_known-2.result c.if-not-is_known.false-raw, ← rw (place-core 15 (omega arith)) at (c.is_known-3.ensures w), c.if-is_known.true))

pub returns : goal.returns
returns c w = off_class c.args.op c.args.flags (map_in c.args.marks w) c.foreign.result c.foreign.ensures c.if-foreign.false c.bits-code.result c.bits-code.ensures c.is_known.result (rw place-nzcv at (c.is_known.ensures w)) c.if-code-is_known.false c.check_condition.result (c.check_condition.ensures ∙ ap (λ (k : ℕ). holds k c.args.flags) (condition_field c.args.op _ c.bits-code.ensures)) (not-false _ c.if-not-check_condition.false-raw) _ (rw (← c.is_exempt.ensures, c.if-is_exempt.false, ← rw place-exc at (c.is_known-2.ensures w), not-false c.is_known-2.result c.if-not-is_known.false-raw, ← rw (place-core 15 (omega arith)) at (c.is_known-3.ensures w), c.if-is_known.false))
