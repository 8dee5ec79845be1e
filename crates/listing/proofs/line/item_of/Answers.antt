use Rattle.std.proofs.Common.{◌≡◌, ◌-◌, ◌∙◌, ap, sym, arith, true, false, length}
use Rattle.std.proofs.lemmas.Result.{err_from_is_err_and}
use borrow.Author.Tests.{eq-eqb, ne_eqb}
use Rattle.listing.specs.declared.line.Expected.TheVariants as expected
use Rattle.listing.specs.Item.{Word, Mistake}
use Rattle.numerals.specs.Number.{hex_of}
use Rattle.listing.specs.Line.{end_of, rest_of, ended_of, set_of, window_of, unknown_of, word_of, item_of, set_text, window_text, unknown_text}
use Rattle.listing.proofs.Items.{word_is, rest_is, end_is, blank_is, compared_is, given_value, given_wrong}
use Rattle.listing.proofs.line.item_of.Goals as goal

pub returns-then-is_empty : goal.returns-then-is_empty
unfolding item_of
returns-then-is_empty c = rw (← blank_is c.args.line.now c.first.ensures.word c.first.ensures.rest, ← c.if-is_empty.ensures)

pub returns-then-eq : goal.returns-then-eq
unfolding item_of
returns-then-eq c =
    let l = c.args.line.now in
    let first = c.first.ensures in
    rw (← blank_is l first.word first.rest, ← c.if-is_empty.ensures, compared_is l first.word first.rest set_text _ true c.as_slice.ensures c.if-eq.ensures)
    (c.set_of.ensures ∙ ap set_of (rest_is l first.word first.rest))

pub returns-then-eq-2 : goal.returns-then-eq-2
unfolding item_of
returns-then-eq-2 c =
    let l = c.args.line.now in
    let first = c.first.ensures in
    rw (← blank_is l first.word first.rest, ← c.if-is_empty.ensures, compared_is l first.word first.rest set_text _ false c.as_slice.ensures c.if-eq.ensures, compared_is l first.word first.rest window_text _ true c.as_slice-else-eq.ensures c.if-eq-2.ensures)
    (c.window_of.ensures ∙ ap window_of (rest_is l first.word first.rest))

pub returns-then-eq-3 : goal.returns-then-eq-3
unfolding item_of
returns-then-eq-3 c =
    let l = c.args.line.now in
    let first = c.first.ensures in
    let end : length l - length c.first.result.1.now ≡ end_of l = omega (arith, end_is l first.word first.rest) in
    rw (← blank_is l first.word first.rest, ← c.if-is_empty.ensures, compared_is l first.word first.rest set_text _ false c.as_slice.ensures c.if-eq.ensures, compared_is l first.word first.rest window_text _ false c.as_slice-else-eq.ensures c.if-eq-2.ensures, compared_is l first.word first.rest unknown_text _ true c.as_slice-else-eq-2.ensures c.if-eq-3.ensures)
    (c.unknown_of.ensures ∙ ap (unknown_of _) (rest_is l first.word first.rest) ∙ ap (λ k. unknown_of k (rest_of l)) end)

pub returns-in_err-x : goal.returns-in_err-x
unfolding item_of word_of
returns-in_err-x c =
    let l = c.args.line.now in
    let first = c.first.ensures in
    let wrong = given_wrong l first.word first.rest hex_of _ c.hex_of.ensures (λ x. ended_of (rest_of l) (Word x)) (Mistake expected.Item) _ _ _ c.ok_or.ensures.value c.in_err-x.was in
    let error = err_from_is_err_and c.from_residual.result c.from_residual.ensures.1 in
    rw (← blank_is l first.word first.rest, ← c.if-is_empty.ensures, compared_is l first.word first.rest set_text _ false c.as_slice.ensures c.if-eq.ensures, compared_is l first.word first.rest window_text _ false c.as_slice-else-eq.ensures c.if-eq-2.ensures, compared_is l first.word first.rest unknown_text _ false c.as_slice-else-eq-2.ensures c.if-eq-3.ensures, eq-eqb _ _ (ap length (sym (word_is l first.word first.rest)) ∙ c.if-word-eq8.true), error.1, error.2, wrong.0) wrong.1

pub returns-in_ok-x : goal.returns-in_ok-x
unfolding item_of word_of
returns-in_ok-x c =
    let l = c.args.line.now in
    let first = c.first.ensures in
    rw (← blank_is l first.word first.rest, ← c.if-is_empty.ensures, compared_is l first.word first.rest set_text _ false c.as_slice.ensures c.if-eq.ensures, compared_is l first.word first.rest window_text _ false c.as_slice-else-eq.ensures c.if-eq-2.ensures, compared_is l first.word first.rest unknown_text _ false c.as_slice-else-eq-2.ensures c.if-eq-3.ensures, eq-eqb _ _ (ap length (sym (word_is l first.word first.rest)) ∙ c.if-word-eq8.true))
    (c.ended.ensures ∙ ap (λ k. ended_of k (Word c.in_ok-x.x)) (rest_is l first.word first.rest)
    ∙ given_value l first.word first.rest hex_of _ c.hex_of.ensures (λ x. ended_of (rest_of l) (Word x)) (Mistake expected.Item) _ _ _ c.ok_or.ensures.value c.in_ok-x.was)

pub returns-else-word-eq8 : goal.returns-else-word-eq8
unfolding item_of word_of
returns-else-word-eq8 c =
    let l = c.args.line.now in
    let first = c.first.ensures in
    rw (← blank_is l first.word first.rest, ← c.if-is_empty.ensures, compared_is l first.word first.rest set_text _ false c.as_slice.ensures c.if-eq.ensures, compared_is l first.word first.rest window_text _ false c.as_slice-else-eq.ensures c.if-eq-2.ensures, compared_is l first.word first.rest unknown_text _ false c.as_slice-else-eq-2.ensures c.if-eq-3.ensures, ne_eqb _ _ (λ z. c.if-word-eq8.false (ap length (word_is l first.word first.rest) ∙ z)))
