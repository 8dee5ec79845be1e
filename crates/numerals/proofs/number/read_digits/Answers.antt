use Rattle.std.proofs.Common.{◌∙◌, sym, arith}
use Rattle.numerals.proofs.Reading.{word_fits, word_exceeds, read_none, read_large, read_on, read_end}
use Rattle.numerals.proofs.number.read_digits.Goals as goal

pub returns-then-base-d : goal.returns-then-base-d
returns-then-base-d c = read_none _ _ _ _ _ c.loop-b-test.true c.digit_of-d.ensures c.if-base-d.true ∙ c.loop-b.invariant.read

pub returns-in_err-v : goal.returns-in_err-v
returns-in_err-v c =
    let large = rw c.from.ensures at (word_exceeds _ _ c.try_from.ensures (sym c.ok.ensures.value ∙ c.in_err-v.was)) in
    c.from_residual.ensures ∙ read_large _ _ _ _ _ c.loop-b-test.true c.digit_of-d.ensures c.if-base-d.false large ∙ c.loop-b.invariant.read

pub loop-b-preserved : goal.loop-b-preserved
loop-b-preserved c =
    let fits = rw c.from.ensures at (word_fits _ _ _ c.try_from.ensures (sym c.ok.ensures.value ∙ c.in_ok-v.was)) in
    record {
      in_range = omega arith;
      read = rw (← fits.1) (read_on _ _ _ _ _ c.loop-b-test.true c.digit_of-d.ensures c.if-base-d.false fits.0 ∙ c.loop-b.invariant.read);
    }

pub returns : goal.returns
returns c = read_end _ _ _ _ c.loop-b-test.false ∙ c.loop-b.invariant.read
