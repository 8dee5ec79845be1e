use Rattle.std.proofs.Common.{◌∙◌, ap}
use Rattle.std.proofs.lemmas.Result.{err_from_is_err_and}
use Rattle.listing.specs.declared.line.Expected.TheVariants.{Count}
use Rattle.listing.specs.Item.{Mistake, Window}
use Rattle.numerals.specs.Number.{decimal_of}
use Rattle.listing.specs.Line.{rest_of, ended_of, window_from}
use Rattle.listing.proofs.Items.{rest_is, given_value, given_wrong}
use Rattle.listing.proofs.line.window_from.Goals as goal

pub returns-in_err-count : goal.returns-in_err-count
unfolding window_from
returns-in_err-count c =
    let l = c.args.rest.now in
    let wrong = given_wrong l c.first.ensures.word c.first.ensures.rest decimal_of _ c.decimal_of.ensures (λ x. ended_of (rest_of l) (Window c.args.base x)) (Mistake Count) _ _ _ c.ok_or.ensures.value c.in_err-count.was in
    let error = err_from_is_err_and c.from_residual.result c.from_residual.ensures.1 in
    rw (error.1, error.2, wrong.0) wrong.1

pub returns : goal.returns
unfolding window_from
returns c =
    let l = c.args.rest.now in
    let first = c.first.ensures in
    c.ended.ensures ∙ ap (λ k. ended_of k (Window c.args.base c.in_ok-count.count)) (rest_is l first.word first.rest)
    ∙ given_value l first.word first.rest decimal_of _ c.decimal_of.ensures (λ x. ended_of (rest_of l) (Window c.args.base x)) (Mistake Count) _ _ _ c.ok_or.ensures.value c.in_ok-count.was
