use Rattle.std.proofs.Common.{◌∙◌, refl, sym}
use Rattle.std.proofs.lemmas.Result.{err_from_is_err_and}
use Rattle.script.specs.Layout.{layout_of}
use Rattle.script.proofs.Unknown.{unknown_end, unknown_mistake, unknown_beyond, unknown_on, one_unknown}
use Rattle.script.proofs.item.mark_all_unknown.Goals as goal

pub returns-in_err-place : goal.returns-in_err-place
returns-in_err-place c = λ s w l.
    let error = err_from_is_err_and c.from_residual.result c.from_residual.ensures.1 in
    rw (error.1, error.2, c.in_err-place.ensures.expected)
    (unknown_mistake (layout_of c.args.layout) _ c.args.line.now _ c.in_err-place.ensures.next ∙ c.loop-place.invariant s w l)

pub returns-then-not-is_place : goal.returns-then-not-is_place
returns-then-not-is_place c = λ s w l.
    rw c.words-words.ensures
    (unknown_beyond (layout_of c.args.layout) _ c.args.line.now _ _ _ _ refl (rw c.in-Some.is at c.in_ok-place.ensures.next) (sym (rw c.words-words.ensures at c.is_place.ensures) ∙ c.if-not-is_place.true)
    ∙ c.loop-place.invariant s w l)

pub loop-place-preserved : goal.loop-place-preserved
loop-place-preserved c = λ s w l.
    unknown_on (layout_of c.args.layout) _ c.args.line.now _ _ _ _ refl (rw c.in-Some.is at c.in_ok-place.ensures.next) (sym (rw c.words-words.ensures at c.is_place.ensures) ∙ c.if-not-is_place.false) _
    (one_unknown _ s w l _ _ c.mark_unknown.ensures)
    ∙ c.loop-place.invariant s w l

pub returns : goal.returns
returns c = λ s w l.
    unknown_end (layout_of c.args.layout) _ c.args.line.now _ (rw c.in_default.is at c.in_ok-place.ensures.next)
    ∙ c.loop-place.invariant s w l
