use Rattle.outcomes.proofs.Replays.{replayed_Fits, not_replayed, state_words, answer_words, has_replayed}
use Rattle.calls.proofs.recorded.replay_call.Goals as goal

pub returns-then-not-is_valid_replay : goal.returns-then-not-is_valid_replay
returns-then-not-is_valid_replay c =
    let a = c.args in
    not_replayed a.bytes.now a.state.now a.marks.now a.window.now a.window_marks.now a.answer.now c.is_valid_replay.result c.is_valid_replay.ensures c.if-not-is_valid_replay.true-raw

pub encode-requires : goal.encode-requires
encode-requires c =
    let a = c.args in
    state_words a.bytes.now a.state.now a.marks.now a.window.now a.window_marks.now a.answer.now c.is_valid_replay.result c.is_valid_replay.ensures c.if-not-is_valid_replay.false-raw

pub report_stop-requires : goal.report_stop-requires
report_stop-requires c =
    let a = c.args in
    let replay = c.replay-done in
    let fits = replayed_Fits a.bytes.now a.window.now a.window_marks.now replay.result replay.new.window replay.new.window_marks replay.ensures.0.answer in
    (answer_words a.bytes.now a.state.now a.marks.now a.window.now a.window_marks.now a.answer.now c.is_valid_replay.result c.is_valid_replay.ensures c.if-not-is_valid_replay.false-raw, fits.0, fits.1)

pub returns : goal.returns
returns c =
    let a = c.args in
    let replay = c.replay-done in
    let encode = c.encode in
    let told = c.report_stop in
    has_replayed a.bytes.now a.state.now a.marks.now a.window.now a.window_marks.now a.answer.now c.is_valid_replay.result c.is_valid_replay.ensures replay.result told.result encode.new.state replay.new.window replay.new.window_marks told.new.answer c.if-not-is_valid_replay.false-raw
    replay.ensures.0 replay.ensures.1 encode.ensures told.ensures
