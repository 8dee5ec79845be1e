use lib.ListN.{length}
use Rattle.outcomes.proofs.Runs.{not_run, has_run}
use Rattle.answer.proofs.Bounds.{ran_Fits}
use Rattle.outcomes.proofs.Calls.{Valid-call_state, valid_call_answer}
use Rattle.run.specs.Run.{run_reply}
use Rattle.machine.specs.Place.{state}
use Rattle.calls.proofs.plain_run.run_call.Goals as goal

pub returns-then-not-is_valid_call : goal.returns-then-not-is_valid_call
returns-then-not-is_valid_call c = not_run (run_reply c.args.base c.args.list.now) c.args.state.now c.args.window.now c.args.answer.now c.args.thumb c.is_valid_call.result c.is_valid_call.ensures c.if-not-is_valid_call.true-raw

pub decode-machine-requires : goal.decode-machine-requires
decode-machine-requires c = Valid-call_state c.args.state.now c.args.thumb (length c.args.answer.now) c.is_valid_call.result c.is_valid_call.ensures c.if-not-is_valid_call.false-raw

pub encode-requires : goal.encode-requires
encode-requires c = (Valid-call_state c.args.state.now c.args.thumb (length c.args.answer.now) c.is_valid_call.result c.is_valid_call.ensures c.if-not-is_valid_call.false-raw).words

pub report_stop-requires : goal.report_stop-requires
report_stop-requires c =
    let fits = ran_Fits c.args.base c.args.list.now (state c.decode-machine.result c.args.window.now) c.run-done.result c.run-done.new.window c.run-done.ensures in
    (valid_call_answer c.args.state.now c.args.thumb (length c.args.answer.now) c.is_valid_call.result c.is_valid_call.ensures c.if-not-is_valid_call.false-raw, fits.0, fits.1)

pub returns : goal.returns
returns c = has_run (run_reply c.args.base c.args.list.now) c.args.state.now c.args.window.now c.args.answer.now c.args.thumb c.is_valid_call.result c.is_valid_call.ensures c.decode-machine.result c.run-done.result c.report_stop.result c.encode.new.state c.run-done.new.window c.report_stop.new.answer c.if-not-is_valid_call.false-raw c.decode-machine.ensures c.run-done.ensures c.encode.ensures c.report_stop.ensures
