use Rattle.std.proofs.Common.{◌∙◌, arith}
use Rattle.numerals.proofs.Digits.{digit_written, digits_start, digits_end}
use Rattle.numerals.proofs.number.write_digits.Goals as goal

pub loop-i-init : goal.loop-i-init
loop-i-init c = digits_start _ _ _

pub loop-i-preserved : goal.loop-i-preserved
loop-i-preserved c = digit_written _ _ _ _ _ c.requires c.loop-i-test.true (omega arith) c.digit_text.ensures ∙ c.loop-i.invariant

pub returns : goal.returns
returns c = digits_end _ _ _ _ _ c.loop-i-test.false c.loop-i.invariant
