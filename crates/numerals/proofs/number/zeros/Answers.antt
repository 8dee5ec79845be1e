use Rattle.std.proofs.Common.{rules, tests}
use Rattle.std.proofs.lemmas.Iterator.{YieldsList-from_slice}
use Rattle.std.proofs.lemmas.Iterator.Search.{position_from_yields_List}
use Rattle.numerals.proofs.Digits.{other, zeros_found}
use Rattle.numerals.proofs.number.zeros.Goals as goal

pub returns : goal.returns
returns c =
    zeros_found c.args.digits c.position.result _ (search rules)
    (position_from_yields_List other _ _ c.position.result c.position.ensures.ran (YieldsList-from_slice _ c.iter.ensures.rest) (λ x b q k. search (rules, tests)))
    c.unwrap_or.ensures
