use lib.ListN.{length}
use Rattle.vfp.specs.Call.{load_store_reply}
use Rattle.outcomes.proofs.Calls.{Valid-call_state, valid_call_answer, not-called, has_called}
use Rattle.calls.proofs.load_store.coprocessor_load_store_call.Goals as goal

pub returns-then-not-is_valid_call : goal.returns-then-not-is_valid_call
returns-then-not-is_valid_call c = not-called (λ t. load_store_reply c.args.base c.args.word) c.args.state.now c.args.window.now c.args.answer.now c.args.thumb c.is_valid_call.result c.is_valid_call.ensures c.if-not-is_valid_call.true-raw

pub decode-machine-requires : goal.decode-machine-requires
decode-machine-requires c = Valid-call_state c.args.state.now c.args.thumb (length c.args.answer.now) c.is_valid_call.result c.is_valid_call.ensures c.if-not-is_valid_call.false-raw

pub encode-requires : goal.encode-requires
encode-requires c = (Valid-call_state c.args.state.now c.args.thumb (length c.args.answer.now) c.is_valid_call.result c.is_valid_call.ensures c.if-not-is_valid_call.false-raw).words

pub report_exit-requires : goal.report_exit-requires
report_exit-requires c = valid_call_answer c.args.state.now c.args.thumb (length c.args.answer.now) c.is_valid_call.result c.is_valid_call.ensures c.if-not-is_valid_call.false-raw

pub returns : goal.returns
returns c = has_called (λ t. load_store_reply c.args.base c.args.word) c.args.state.now c.args.window.now c.args.answer.now c.args.thumb c.is_valid_call.result c.is_valid_call.ensures c.decode-machine.result c.coprocessor_load_store-done.result c.report_exit.result c.encode.new.state c.coprocessor_load_store-done.new.window c.report_exit.new.answer c.if-not-is_valid_call.false-raw c.decode-machine.ensures c.coprocessor_load_store-done.ensures c.encode.ensures c.report_exit.ensures
