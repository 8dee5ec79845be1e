use Rattle.std.proofs.Common.{rules, tests}
use mathlib.Core.Bool.{not}
use Rattle.std.proofs.lemmas.Iterator.{YieldsList-from_slice}
use Rattle.std.proofs.lemmas.Iterator.Search.{position_from_yields_List}
use Rattle.std.proofs.lemmas.List.Sums.{prefix_len-le-length}
use Rattle.chain_lines.proofs.Spaces.{is_space, counted, position_or_end}
use Rattle.chain_lines.proofs.name.count_before_space.Goals as goal

pub returns : goal.returns
returns c =
    rw (counted c.args.bytes.now)
    (position_or_end _ _ _ c.position.result (prefix_len-le-length (λ b. not (is_space b)) c.args.bytes.now)
    (position_from_yields_List is_space _ _ c.position.result c.position.ensures.ran (YieldsList-from_slice c.args.bytes.now c.iter.ensures.rest) (λ x b q k. search (rules, tests)))
    c.unwrap_or.ensures)
