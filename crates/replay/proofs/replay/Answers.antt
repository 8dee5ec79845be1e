use Rattle.replay.proofs.Running.{refused_promise, known_refused, run_promise}
use Rattle.record_refusal.proofs.Refusing.{accepted, accepted_marks}
use lib.ListN.{length}
use mathlib.Core.Path.{sym, ◌∙◌}
use Rattle.replay.proofs.replay.Goals as goal

pub returns-then-n-ne0 : goal.returns-then-n-ne0
returns-then-n-ne0 c = (refused_promise c.args.bytes.now c.args.window.now c.args.window_marks.now c.refusal-n.result c.new.result c.refusal-n.ensures c.if-n-ne0.true c.new.ensures, known_refused c.args.window_marks.now c.count_ones-known.result c.count_ones-known.ensures)

pub run_cycle-requires : goal.run_cycle-requires
run_cycle-requires c = (accepted c.args.bytes.now (length c.args.window.now) (length c.args.window_marks.now) (sym c.refusal-n.ensures ∙ c.if-n-ne0.false), accepted_marks c.args.bytes.now (length c.args.window.now) (length c.args.window_marks.now) (sym c.refusal-n.ensures ∙ c.if-n-ne0.false))

pub returns : goal.returns
returns c = (run_promise c.args.bytes.now c.args.window.now c.args.window_marks.now _ c.run_cycle.result.marks (sym c.refusal-n.ensures ∙ c.if-n-ne0.false) c.run_cycle.ensures.0, c.run_cycle.ensures.1)
