use Rattle.std.proofs.Common.{◌∙◌, ap}
use Rattle.std.proofs.lemmas.Result.{err_from_is_err_and}
use Rattle.listing.specs.declared.line.Expected.TheVariants.{Base}
use Rattle.listing.specs.Item.{Mistake}
use Rattle.numerals.specs.Number.{value_of}
use Rattle.listing.specs.Line.{rest_of, window_from, window_of}
use Rattle.listing.proofs.Items.{rest_is, given_value, given_wrong}
use Rattle.listing.proofs.line.window_of.Goals as goal

pub returns-in_err-base : goal.returns-in_err-base
unfolding window_of
returns-in_err-base c =
    let l = c.args.rest.now in
    let wrong = given_wrong l c.first.ensures.word c.first.ensures.rest value_of _ c.value_of.ensures (λ x. window_from x (rest_of l)) (Mistake Base) _ _ _ c.ok_or.ensures.value c.in_err-base.was in
    let error = err_from_is_err_and c.from_residual.result c.from_residual.ensures.1 in
    rw (error.1, error.2, wrong.0) wrong.1

pub returns : goal.returns
unfolding window_of
returns c =
    let l = c.args.rest.now in
    let first = c.first.ensures in
    c.window_from.ensures ∙ ap (window_from _) (rest_is l first.word first.rest)
    ∙ given_value l first.word first.rest value_of _ c.value_of.ensures (λ x. window_from x (rest_of l)) (Mistake Base) _ _ _ c.ok_or.ensures.value c.in_ok-base.was
