use Rattle.std.proofs.Common.{◌∙◌, ap, take, eqb, rules, tests}
use Rattle.std.proofs.lemmas.Iterator.{YieldsList-from_slice}
use Rattle.std.proofs.lemmas.Iterator.Search.{position_from_yields_List}
use Rattle.tokens.proofs.Words.{found_or_all, before_found}
use Rattle.tokens.proofs.token.before.Goals as goal

pub returns : goal.returns
returns c =
    let t = c.args.text.now in
    let is = position_from_yields_List (λ x. eqb x c.args.b) _ _ c.position.result c.position.ensures.ran (YieldsList-from_slice t c.iter.ensures.rest) (λ x b q k. search (rules, tests)) in
    ap (λ n. take n t) ((found_or_all (λ x. eqb x c.args.b) t c.position.result _ is c.unwrap_or-end.ensures).1 ∙ before_found c.args.b t)
