use Rattle.std.proofs.Common.{◌≡◌, ◌++◌, length, drop}
use Rattle.numerals.specs.Number.{digits_text}
use Rattle.numerals.proofs.number.write_digits.Given as goal

abbrev pub invariant-loop-i : goal.invariant-loop-i
invariant-loop-i l = digits_text l.base l.i l.rest ++ drop l.i l.out ≡ digits_text l.base (length l.fn.out) l.x
