use Rattle.std.proofs.Common.{◌∙◌, not, rules, tests}
use mathlib.Core.Bool.{beq}
use Rattle.std.proofs.lemmas.Iterator.{YieldsList-from_slice}
use Rattle.std.proofs.lemmas.Iterator.Search.{position_from_yields_List}
use Rattle.tokens.specs.Token.{is_gap}
use Rattle.tokens.proofs.Words.{found_or_all, leading_found}
use Rattle.tokens.proofs.token.leading.Goals as goal

pub returns : goal.returns
returns c =
    let t = c.args.line.now in
    let is = position_from_yields_List (λ x. not (beq (is_gap x) c.args.gaps)) _ _ c.position.result c.position.ensures.ran (YieldsList-from_slice t c.iter.ensures.rest) (λ x b q k. search (rules, tests)) in
    let found = found_or_all (λ x. not (beq (is_gap x) c.args.gaps)) t c.position.result _ is c.unwrap_or.ensures in
    (found.0, found.1 ∙ leading_found c.args.gaps t)
