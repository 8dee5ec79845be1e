use Rattle.std.proofs.Common.{◌∙◌, ap, arith}
use Rattle.std.proofs.lemmas.Result.{err_from_is_err_and}
use borrow.Author.Tests.{eq-eqb, ne_eqb}
use Rattle.listing.specs.declared.line.Expected.TheVariants.{Value}
use Rattle.listing.specs.Item.{Set, Mistake}
use Rattle.numerals.specs.Number.{value_of}
use Rattle.listing.specs.Line.{rest_of, ended_of, misfit, set_value, set_to}
use Rattle.listing.proofs.Items.{rest_is, given_value, given_wrong}
use Rattle.listing.proofs.line.set_to.Goals as goal

pub returns-in_err-value : goal.returns-in_err-value
unfolding set_to
returns-in_err-value c =
    let l = c.args.rest.now in
    let wrong = given_wrong l c.first.ensures.word c.first.ensures.rest value_of _ c.value_of.ensures (set_value c.args.place (rest_of l)) (Mistake Value) _ _ _ c.ok_or.ensures.value c.in_err-value.was in
    let error = err_from_is_err_and c.from_residual.result c.from_residual.ensures.1 in
    rw (error.1, error.2, wrong.0) wrong.1

pub returns-then-fits : goal.returns-then-fits
unfolding set_to
returns-then-fits c =
    let l = c.args.rest.now in
    let first = c.first.ensures in
    c.ended.ensures ∙ ap (λ k. ended_of k (Set c.args.place c.in_ok-value.value)) (rest_is l first.word first.rest)
    ∙ rw (← c.if-fits.ensures) at (given_value l first.word first.rest value_of _ c.value_of.ensures (set_value c.args.place (rest_of l)) (Mistake Value) _ _ _ c.ok_or.ensures.value c.in_ok-value.was)

pub returns-in-49 : goal.returns-in-49
unfolding set_to misfit
returns-in-49 c =
    let l = c.args.rest.now in
    let first = c.first.ensures in
    rw (← c.if-fits.ensures, eq-eqb _ _ c.in-49.is) at (given_value l first.word first.rest value_of _ c.value_of.ensures (set_value c.args.place (rest_of l)) (Mistake Value) _ _ _ c.ok_or.ensures.value c.in_ok-value.was)

pub returns-in-52 : goal.returns-in-52
unfolding set_to misfit
returns-in-52 c =
    let l = c.args.rest.now in
    let first = c.first.ensures in
    rw (← c.if-fits.ensures, ne_eqb c.args.place 49 (λ z. omega arith), eq-eqb _ _ c.in-52.is) at (given_value l first.word first.rest value_of _ c.value_of.ensures (set_value c.args.place (rest_of l)) (Mistake Value) _ _ _ c.ok_or.ensures.value c.in_ok-value.was)

pub returns-in_default : goal.returns-in_default
unfolding set_to misfit
returns-in_default c =
    let l = c.args.rest.now in
    let first = c.first.ensures in
    rw (← c.if-fits.ensures, ne_eqb c.args.place 49 (λ z. omega arith), ne_eqb c.args.place 52 (λ z. omega arith)) at (given_value l first.word first.rest value_of _ c.value_of.ensures (set_value c.args.place (rest_of l)) (Mistake Value) _ _ _ c.ok_or.ensures.value c.in_ok-value.was)
