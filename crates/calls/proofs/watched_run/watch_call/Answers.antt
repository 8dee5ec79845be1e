use lib.ListN.{length}
use Rattle.outcomes.proofs.Calls.{Valid-call_state, valid_call_answer}
use Rattle.outcomes.proofs.Watches.{not_watched, has_watched}
use Rattle.answer.proofs.Bounds.{watched_Fits}
use Rattle.place_marks.specs.Word.{map_in}
use Rattle.machine.specs.Place.{state}
use Rattle.calls.proofs.watched_run.watch_call.Goals as goal

pub returns-then-not-is_valid_call : goal.returns-then-not-is_valid_call
returns-then-not-is_valid_call c = let a = c.args in not_watched a.base a.list.now a.state.now a.marks.now a.window.now a.window_marks.now a.thumb a.answer.now c.is_valid_call.result c.is_valid_call.ensures c.if-not-is_valid_call.true-raw

pub decode-machine-requires : goal.decode-machine-requires
decode-machine-requires c = let a = c.args in Valid-call_state a.state.now a.thumb (length a.answer.now) c.is_valid_call.result c.is_valid_call.ensures c.if-not-is_valid_call.false-raw

pub encode-requires : goal.encode-requires
encode-requires c = let a = c.args in (Valid-call_state a.state.now a.thumb (length a.answer.now) c.is_valid_call.result c.is_valid_call.ensures c.if-not-is_valid_call.false-raw).words

pub report_stop-requires : goal.report_stop-requires
report_stop-requires c = let a = c.args in let fits = watched_Fits a.base a.list.now (state c.decode-machine.result a.window.now) (map_in a.marks.now a.window_marks.now) c.watch-done.result c.watch-done.new.window c.watch-done.new.window_marks c.watch-done.ensures.0.answer in (valid_call_answer a.state.now a.thumb (length a.answer.now) c.is_valid_call.result c.is_valid_call.ensures c.if-not-is_valid_call.false-raw, fits.0, fits.1)

pub returns : goal.returns
returns c = let a = c.args in has_watched a.base a.list.now a.state.now a.marks.now a.window.now a.window_marks.now a.thumb a.answer.now c.is_valid_call.result c.is_valid_call.ensures c.decode-machine.result c.watch-done.result c.report_stop.result c.encode.new.state c.watch-done.new.window c.watch-done.new.window_marks c.report_stop.new.answer c.if-not-is_valid_call.false-raw c.decode-machine.ensures c.watch-done.ensures.0 c.watch-done.ensures.1 c.watch-done.ensures.2 c.encode.ensures c.report_stop.ensures
