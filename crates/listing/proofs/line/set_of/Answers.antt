use Rattle.std.proofs.Common.{◌∙◌, ap}
use Rattle.std.proofs.lemmas.Result.{err_from_is_err_and}
use Rattle.listing.specs.declared.line.Expected.TheVariants.{Place}
use Rattle.listing.specs.Item.{Mistake}
use Rattle.place_names.specs.Place.{place_of}
use Rattle.listing.specs.Line.{rest_of, set_to, set_of}
use Rattle.listing.proofs.Items.{rest_is, given_value, given_wrong}
use Rattle.listing.proofs.line.set_of.Goals as goal

pub returns-in_err-place : goal.returns-in_err-place
unfolding set_of
returns-in_err-place c =
    let l = c.args.rest.now in
    let wrong = given_wrong l c.first.ensures.word c.first.ensures.rest place_of _ c.place_of.ensures (λ p. set_to p (rest_of l)) (Mistake Place) _ _ _ c.ok_or.ensures.value c.in_err-place.was in
    let error = err_from_is_err_and c.from_residual.result c.from_residual.ensures.1 in
    rw (error.1, error.2, wrong.0) wrong.1

pub returns : goal.returns
unfolding set_of
returns c =
    let l = c.args.rest.now in
    let first = c.first.ensures in
    c.set_to.ensures ∙ ap (set_to _) (rest_is l first.word first.rest)
    ∙ given_value l first.word first.rest place_of _ c.place_of.ensures (λ p. set_to p (rest_of l)) (Mistake Place) _ _ _ c.ok_or.ensures.value c.in_ok-place.was
