use Rattle.std.proofs.Common.{le_of_lt}
use Rattle.sums.proofs.Numbers.{ordered, swapped}
use Rattle.sums.proofs.sum.sum_digits.Goals as goal

pub ordered_sum-requires-clause-exponents : goal.ordered_sum-requires-clause-exponents
ordered_sum-requires-clause-exponents c =
    let p = c.requires.digits in
    let o = ordered c.args.a c.args.ea c.args.b c.args.eb p.0 p.1 p.2 p.3 c.if-eb-b.true in
    (o.0, c.requires.exponents.0, o.1)

pub ordered_sum-requires-2-clause-exponents : goal.ordered_sum-requires-2-clause-exponents
ordered_sum-requires-2-clause-exponents c =
    let p = c.requires.digits in
    let o = ordered c.args.b c.args.eb c.args.a c.args.ea p.2 p.3 p.0 p.1 (le_of_lt c.if-eb-b.false) in
    (o.0, c.requires.exponents.1, o.1)

pub returns : goal.returns
returns c = swapped _ _ _ _ _ _ _ c.ordered_sum-2.ensures
