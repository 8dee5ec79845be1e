use Rattle.calls.proofs.Called.{not_called, has_called, Valid-state, eight, refusal_small, pairs_small}
use Rattle.answer.proofs.Bounds.{watched_Fits}
use Rattle.watch.specs.Watch.{answered}
use Rattle.place_marks.specs.Word.{map_in}
use Rattle.machine.specs.Place.{state}
use Rattle.calls.proofs.place_origin.origin_call.Goals as goal

pub returns-then-not-is_valid_origin : goal.returns-then-not-is_valid_origin
returns-then-not-is_valid_origin c = let a = c.args in not_called a.base a.list.now a.state.now a.marks.now a.window.now a.window_marks.now a.thumb a.place a.pairs.now a.answer.now c.is_valid_origin.result c.is_valid_origin.ensures c.if-not-is_valid_origin.true-raw

pub decode-machine-requires : goal.decode-machine-requires
decode-machine-requires c = let a = c.args in Valid-state a.base a.list.now a.state.now a.marks.now a.window.now a.window_marks.now a.thumb a.place a.pairs.now a.answer.now c.is_valid_origin.result c.is_valid_origin.ensures c.if-not-is_valid_origin.false-raw

pub encode-requires : goal.encode-requires
encode-requires c = let a = c.args in (Valid-state a.base a.list.now a.state.now a.marks.now a.window.now a.window_marks.now a.thumb a.place a.pairs.now a.answer.now c.is_valid_origin.result c.is_valid_origin.ensures c.if-not-is_valid_origin.false-raw).words

pub report_origin-requires : goal.report_origin-requires
report_origin-requires c = let a = c.args in let fits = watched_Fits a.base a.list.now (state c.decode-machine.result a.window.now) (map_in a.marks.now a.window_marks.now) c.origin-done.result.watched c.origin-done.new.window c.origin-done.new.window_marks c.origin-done.ensures.0.answer in (eight a.base a.list.now a.state.now a.marks.now a.window.now a.window_marks.now a.thumb a.place a.pairs.now a.answer.now c.is_valid_origin.result c.is_valid_origin.ensures c.if-not-is_valid_origin.false-raw, fits.0, fits.1, refusal_small a.base a.list.now (state c.decode-machine.result a.window.now) (map_in a.marks.now a.window_marks.now) a.place (answered c.origin-done.result.watched c.origin-done.new.window c.origin-done.new.window_marks) a.pairs.now _ c.origin-done.result.refusal c.origin-done.result.first c.origin-done.result.pairs c.origin-done.ensures.3, pairs_small a.base a.list.now (state c.decode-machine.result a.window.now) (map_in a.marks.now a.window_marks.now) a.place (answered c.origin-done.result.watched c.origin-done.new.window c.origin-done.new.window_marks) a.pairs.now _ c.origin-done.result.refusal c.origin-done.result.first c.origin-done.result.pairs c.origin-done.ensures.3 c.origin-done.ensures.0.answer)

pub returns : goal.returns
returns c = let a = c.args in has_called a.base a.list.now a.state.now a.marks.now a.window.now a.window_marks.now a.thumb a.place a.pairs.now a.answer.now c.is_valid_origin.result c.is_valid_origin.ensures c.if-not-is_valid_origin.false-raw c.decode-machine.result c.origin-done.result.watched c.origin-done.result.refusal c.origin-done.result.first c.origin-done.result.pairs c.report_origin.result c.encode.new.state c.origin-done.new.window c.origin-done.new.window_marks _ _ c.decode-machine.ensures c.origin-done.ensures.0 c.origin-done.ensures.1 c.origin-done.ensures.2 c.origin-done.ensures.3 c.encode.ensures c.report_origin.ensures
