use lib.ListN.{length}
use Rattle.processing.specs.Data.{data_tree}
use Rattle.vfp.specs.Call.{reply}
use Rattle.outcomes.proofs.Calls.{Valid-call_state, valid_call_answer, not-called, has_called}
use Rattle.calls.proofs.data_operation.data_processing_call.Goals as goal

pub returns-then-not-is_valid_call : goal.returns-then-not-is_valid_call
returns-then-not-is_valid_call c = λ v. not-called (λ t. reply (data_tree t c.args.word)) c.args.state.now v c.args.answer.now c.args.thumb c.is_valid_call.result c.is_valid_call.ensures c.if-not-is_valid_call.true-raw

pub decode-machine-requires : goal.decode-machine-requires
decode-machine-requires c = Valid-call_state c.args.state.now c.args.thumb (length c.args.answer.now) c.is_valid_call.result c.is_valid_call.ensures c.if-not-is_valid_call.false-raw

pub encode-requires : goal.encode-requires
encode-requires c = (Valid-call_state c.args.state.now c.args.thumb (length c.args.answer.now) c.is_valid_call.result c.is_valid_call.ensures c.if-not-is_valid_call.false-raw).words

pub report_exit-requires : goal.report_exit-requires
report_exit-requires c = valid_call_answer c.args.state.now c.args.thumb (length c.args.answer.now) c.is_valid_call.result c.is_valid_call.ensures c.if-not-is_valid_call.false-raw

pub returns : goal.returns
returns c = λ v. has_called (λ t. reply (data_tree t c.args.word)) c.args.state.now v c.args.answer.now c.args.thumb c.is_valid_call.result c.is_valid_call.ensures c.decode-machine.result c.data_processing-done.result c.report_exit.result c.encode.new.state v c.report_exit.new.answer c.if-not-is_valid_call.false-raw c.decode-machine.ensures (c.data_processing-done.ensures v) c.encode.ensures c.report_exit.ensures
