use Rattle.calls.proofs.Reported.{ended-length, first_five, whole_length, last_three, told_word}
use lib.ListN.{length}
use mathlib.Core.Path.{refl, ap, sym}
use native.Mathlib.Omega.{arith}
use Rattle.calls.proofs.place_origin.report_origin.Goals as goal

pub slice_bounds-report_stop-end : goal.slice_bounds-report_stop-end
slice_bounds-report_stop-end c = omega (arith, ended-length c.args.answer.now c.of_refusal.result c.args.first c.args.pairs c.requires.0)

pub slice_bounds-report_stop-end-2 : goal.slice_bounds-report_stop-end-2
slice_bounds-report_stop-end-2 c = sym (first_five c.args.answer.now c.of_refusal.result c.args.first c.args.pairs c.requires.0)

pub report_stop-requires : goal.report_stop-requires
report_stop-requires c = (first_five c.args.answer.now c.of_refusal.result c.args.first c.args.pairs c.requires.0, c.requires.1, c.requires.2)

pub shape_of-answer : goal.shape_of-answer
shape_of-answer c = whole_length c.args.answer.now c.of_refusal.result c.args.first c.args.pairs c.requires.0 c.report_stop.new.answer (ap length c.report_stop.ensures.1)

pub returns : goal.returns
returns c = (c.report_stop.ensures.0, rw (c.report_stop.ensures.1, last_three c.args.answer.now c.of_refusal.result c.args.first c.args.pairs c.requires.0, c.of_refusal.ensures, told_word c.args.refusal c.requires.3) refl)
