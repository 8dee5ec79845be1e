use native.Mathlib.Omega.{arith}
use mathlib.Core.Bool.{false}
use mathlib.Core.Path.{refl, ◌∙◌, ap}
use Rattle.machine.specs.declared.Machine.{Machine}
use Rattle.word_class.specs.Word.{meaning}
use Rattle.meaning.specs.Run.{run}
use Rattle.meaning.proofs.Laws.{run-on, run-last, run-halt, run_end}
use Rattle.run.proofs.Replies.{answered_as, whole}
use Rattle.machine.specs.Place.{state}
use Rattle.machine.specs.Machine.{assembled}
use Rattle.run.proofs.run_words.Goals as goal

pub loop-i-init : goal.loop-i-init
loop-i-init c = (omega arith, refl, refl)

pub overflow_add-i : goal.overflow_add-i
overflow_add-i c = omega (arith, c.loop-i-test.true, c.well_formed.1.1.1.1.0)

pub loop-i-preserved : goal.loop-i-preserved
loop-i-preserved c = (
  omega arith,
  c.execute-done.auto.window ∙ c.loop-i.invariant.1,
  run-on (meaning c.args.base) c.args.list.now c.loop-i.i c.loop-i-test.true (state (assembled c.loop-i.s c.loop-i.r c.loop-i.x false) c.loop-i.window) _ c.execute-done.ensures _ (rw c.advance.ensures) (rw c.in-On.is) ∙ c.loop-i.invariant.2,
)

pub overflow_add-i-in-Last : goal.overflow_add-i-in-Last
overflow_add-i-in-Last c = omega (arith, c.loop-i-test.true, c.well_formed.1.1.1.1.0)

pub shape_of-window-in-Last : goal.shape_of-window-in-Last
shape_of-window-in-Last c = c.execute-done.auto.window ∙ c.loop-i.invariant.1

pub returns-in-Last : goal.returns-in-Last
returns-in-Last c = answered_as c.ended.result _ _ _ _ _ c.ended.ensures (run-last (meaning c.args.base) c.args.list.now c.loop-i.i c.loop-i-test.true (state (assembled c.loop-i.s c.loop-i.r c.loop-i.x false) c.loop-i.window) _ c.execute-done.ensures (rw c.in-Last.is) ∙ c.loop-i.invariant.2 ∙ ap (λ (m : Machine). run (meaning c.args.base) c.args.list.now 0 (state m c.args.window.now)) (rw (c.new-begun.ensures.0, c.new-begun.ensures.1, c.new-begun.ensures.2) (whole c.args.machine c.requires.0)))

pub shape_of-window-in-Halt : goal.shape_of-window-in-Halt
shape_of-window-in-Halt c = c.execute-done.auto.window ∙ c.loop-i.invariant.1

pub returns-in-Halt : goal.returns-in-Halt
returns-in-Halt c = answered_as c.ended-in-Halt.result _ _ _ _ _ c.ended-in-Halt.ensures (run-halt (meaning c.args.base) c.args.list.now c.loop-i.i c.loop-i-test.true (state (assembled c.loop-i.s c.loop-i.r c.loop-i.x false) c.loop-i.window) _ c.execute-done.ensures _ (rw c.in-Halt.is) ∙ c.loop-i.invariant.2 ∙ ap (λ (m : Machine). run (meaning c.args.base) c.args.list.now 0 (state m c.args.window.now)) (rw (c.new-begun.ensures.0, c.new-begun.ensures.1, c.new-begun.ensures.2) (whole c.args.machine c.requires.0)))

pub shape_of-window : goal.shape_of-window
shape_of-window c = c.loop-i.invariant.1

pub returns : goal.returns
returns c = answered_as c.ended-2.result _ _ _ _ _ c.ended-2.ensures (run_end (meaning c.args.base) c.args.list.now c.loop-i.i (state (assembled c.loop-i.s c.loop-i.r c.loop-i.x false) c.loop-i.window) c.loop-i-test.false ∙ c.loop-i.invariant.2 ∙ ap (λ (m : Machine). run (meaning c.args.base) c.args.list.now 0 (state m c.args.window.now)) (rw (c.new-begun.ensures.0, c.new-begun.ensures.1, c.new-begun.ensures.2) (whole c.args.machine c.requires.0)))
