use native.Mathlib.Omega.{arith}
use Rattle.sheet.proofs.Lines.{halved-length, line_written}
use Rattle.sheet.proofs.line.Goals as goal

pub slice_bounds-out-end-3 : goal.slice_bounds-out-end-3
slice_bounds-out-end-3 c = omega (arith, halved-length _ c.write_digits.new.out c.write_digits.ensures _ c.write_digits-2.new.out c.write_digits-2.ensures)

pub returns : goal.returns
returns c = line_written c.args.n c.write_digits.new.out c.write_digits.ensures c.args.words.high c.write_digits-2.new.out c.write_digits-2.ensures c.args.words.low c.write_digits-3.new.out c.letter.result c.letter-2.result c.args.high_known c.args.low_known c.write_digits-3.ensures c.letter.ensures c.letter-2.ensures
