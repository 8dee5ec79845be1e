use Rattle.word_class.proofs.Words.{condition_field}
use Rattle.bits.specs.Psr.{holds}
use lib.Seq.{set_out}
use mathlib.Core.Path.{refl, ap, sym, ◌∙◌}
use native.Mathlib.Omega.{arith}
use Prim.Native.Nat.{ℕ}
use Rattle.run_log.proofs.log_word.Goals as goal

pub returns-then-i-log_marks : goal.returns-then-i-log_marks
returns-then-i-log_marks c = let a = c.args in (refl, rw c.value_of-value.ensures, rw (c.check_condition-skip.ensures ∙ ap (λ (k : ℕ). holds k a.x.cpsr) (condition_field a.op _ c.bits.ensures)))

pub returns-else-i-log_marks : goal.returns-else-i-log_marks
returns-else-i-log_marks c = let a = c.args in (sym (set_out a.log_marks.now a.i _ c.if-i-log_marks.false), sym (set_out a.log_values.now a.i _ (omega (arith, c.if-i-log_marks.false, c.requires.0))), sym (set_out a.log_skips.now a.i _ (omega (arith, c.if-i-log_marks.false, c.requires.1))))
