use Rattle.run_log.proofs.Logging.{Going-none, Going-on, going_last, going_halt, Going-end}
use Rattle.watch.proofs.Replies.{few, ends_as}
use Rattle.place_marks.specs.Word.{map_in}
use Rattle.machine.specs.Place.{state}
use Rattle.machine.specs.Machine.{assembled}
use native.Mathlib.Omega.{arith}
use mathlib.Core.Bool.{false}
use mathlib.Core.Path.{refl, ◌∙◌}
use Rattle.watch.proofs.watch_words.Goals as goal

pub loop-i-init : goal.loop-i-init
loop-i-init c = (omega arith, refl, refl, c.requires.2, Going-none _ _ _ _ _ _ _ c.requires.3 c.requires.4, refl, refl, refl)

pub offset_bounds-list-i : goal.offset_bounds-list-i
offset_bounds-list-i c = record { fits = omega (arith, c.loop-i-test.true, c.well_formed) }

pub log_word-requires : goal.log_word-requires
log_word-requires c = (c.loop-i.invariant.4.values_size, c.loop-i.invariant.4.skips_size)

pub watch_word-done-requires : goal.watch_word-done-requires
watch_word-done-requires c = (c.requires.1, c.loop-i.invariant.3)

pub overflow_add-i : goal.overflow_add-i
overflow_add-i c = omega (arith, c.loop-i-test.true, c.well_formed)

pub loop-i-smaller : goal.loop-i-smaller
loop-i-smaller c = omega (arith, c.loop-i-test.true)

pub loop-i-preserved : goal.loop-i-preserved
loop-i-preserved c = let a = c.args in let l = c.loop-i in (omega (arith, c.loop-i-test.true), c.watch_word-done.auto.window ∙ l.invariant.1, c.watch_word-done.auto.window_marks ∙ l.invariant.2, c.watch_word-done.ensures.1, Going-on a.base a.list.now (state (assembled c.new-begun.result.s c.new-begun.result.r c.new-begun.result.controls false) a.window.now) (map_in a.marks a.window_marks.now) l.i c.loop-i-test.true (state (assembled l.s l.r l.x false) l.window) l.known l.window_marks l.log_marks l.log_values l.log_skips l.invariant.4 _ _ _ (record { marks = c.log_word.ensures.0; value = c.log_word.ensures.1; skip = c.log_word.ensures.2 }) _ c.watch_word-done.ensures.0 _ (rw c.advance.ensures) (rw c.in-On.is), c.log_word.auto.log_marks ∙ c.loop-i.invariant.5, c.log_word.auto.log_values ∙ c.loop-i.invariant.6, c.log_word.auto.log_skips ∙ c.loop-i.invariant.7)

pub overflow_add-i-in-Last : goal.overflow_add-i-in-Last
overflow_add-i-in-Last c = omega (arith, c.loop-i-test.true, c.well_formed)

pub ended-requires : goal.ended-requires
ended-requires c = few _ _ c.watch_word-done.ensures.1 (omega (arith, c.watch_word-done.auto.window_marks, c.loop-i.invariant.2, c.well_formed))

pub shape_of-window-in-Last : goal.shape_of-window-in-Last
shape_of-window-in-Last c = c.watch_word-done.auto.window ∙ c.loop-i.invariant.1

pub shape_of-window_marks-in-Last : goal.shape_of-window_marks-in-Last
shape_of-window_marks-in-Last c = c.watch_word-done.auto.window_marks ∙ c.loop-i.invariant.2

pub shape_of-log_marks-in-Last : goal.shape_of-log_marks-in-Last
shape_of-log_marks-in-Last c = c.log_word.auto.log_marks ∙ c.loop-i.invariant.5

pub shape_of-log_values-in-Last : goal.shape_of-log_values-in-Last
shape_of-log_values-in-Last c = c.log_word.auto.log_values ∙ c.loop-i.invariant.6

pub shape_of-log_skips-in-Last : goal.shape_of-log_skips-in-Last
shape_of-log_skips-in-Last c = c.log_word.auto.log_skips ∙ c.loop-i.invariant.7

pub returns-in-Last : goal.returns-in-Last
returns-in-Last c = let a = c.args in let l = c.loop-i in ends_as a.base a.list.now (map_in a.marks a.window_marks.now) a.machine a.window.now _ _ _ c.requires.0 c.new-begun.ensures.0 c.new-begun.ensures.1 c.new-begun.ensures.2 c.ended.result _ _ _ _ _ _ _ _ _ _ c.ended.ensures c.watch_word-done.ensures.1 (going_last a.base a.list.now (state (assembled c.new-begun.result.s c.new-begun.result.r c.new-begun.result.controls false) a.window.now) (map_in a.marks a.window_marks.now) l.i c.loop-i-test.true (state (assembled l.s l.r l.x false) l.window) l.known l.window_marks l.log_marks l.log_values l.log_skips l.invariant.4 _ _ _ (record { marks = c.log_word.ensures.0; value = c.log_word.ensures.1; skip = c.log_word.ensures.2 }) _ c.watch_word-done.ensures.0 (rw c.in-Last.is))

pub ended-requires-in-Halt : goal.ended-requires-in-Halt
ended-requires-in-Halt c = few _ _ c.watch_word-done.ensures.1 (omega (arith, c.watch_word-done.auto.window_marks, c.loop-i.invariant.2, c.well_formed))

pub shape_of-window-in-Halt : goal.shape_of-window-in-Halt
shape_of-window-in-Halt c = c.watch_word-done.auto.window ∙ c.loop-i.invariant.1

pub shape_of-window_marks-in-Halt : goal.shape_of-window_marks-in-Halt
shape_of-window_marks-in-Halt c = c.watch_word-done.auto.window_marks ∙ c.loop-i.invariant.2

pub shape_of-log_marks-in-Halt : goal.shape_of-log_marks-in-Halt
shape_of-log_marks-in-Halt c = c.log_word.auto.log_marks ∙ c.loop-i.invariant.5

pub shape_of-log_values-in-Halt : goal.shape_of-log_values-in-Halt
shape_of-log_values-in-Halt c = c.log_word.auto.log_values ∙ c.loop-i.invariant.6

pub shape_of-log_skips-in-Halt : goal.shape_of-log_skips-in-Halt
shape_of-log_skips-in-Halt c = c.log_word.auto.log_skips ∙ c.loop-i.invariant.7

pub returns-in-Halt : goal.returns-in-Halt
returns-in-Halt c = let a = c.args in let l = c.loop-i in ends_as a.base a.list.now (map_in a.marks a.window_marks.now) a.machine a.window.now _ _ _ c.requires.0 c.new-begun.ensures.0 c.new-begun.ensures.1 c.new-begun.ensures.2 c.ended-in-Halt.result _ _ _ _ _ _ _ _ _ _ c.ended-in-Halt.ensures c.watch_word-done.ensures.1 (going_halt a.base a.list.now (state (assembled c.new-begun.result.s c.new-begun.result.r c.new-begun.result.controls false) a.window.now) (map_in a.marks a.window_marks.now) l.i c.loop-i-test.true (state (assembled l.s l.r l.x false) l.window) l.known l.window_marks l.log_marks l.log_values l.log_skips l.invariant.4 _ _ _ (record { marks = c.log_word.ensures.0; value = c.log_word.ensures.1; skip = c.log_word.ensures.2 }) _ c.watch_word-done.ensures.0 _ (rw c.in-Halt.is))

pub ended-requires-2 : goal.ended-requires-2
ended-requires-2 c = few _ _ c.loop-i.invariant.3 (omega (arith, c.loop-i.invariant.2))

pub shape_of-window : goal.shape_of-window
shape_of-window c = c.loop-i.invariant.1

pub shape_of-window_marks : goal.shape_of-window_marks
shape_of-window_marks c = c.loop-i.invariant.2

pub shape_of-log_marks : goal.shape_of-log_marks
shape_of-log_marks c = c.loop-i.invariant.5

pub shape_of-log_values : goal.shape_of-log_values
shape_of-log_values c = c.loop-i.invariant.6

pub shape_of-log_skips : goal.shape_of-log_skips
shape_of-log_skips c = c.loop-i.invariant.7

pub returns : goal.returns
returns c = let a = c.args in let l = c.loop-i in ends_as a.base a.list.now (map_in a.marks a.window_marks.now) a.machine a.window.now _ _ _ c.requires.0 c.new-begun.ensures.0 c.new-begun.ensures.1 c.new-begun.ensures.2 c.ended-2.result _ _ _ _ _ _ _ _ _ _ c.ended-2.ensures l.invariant.3 (Going-end a.base a.list.now (state (assembled c.new-begun.result.s c.new-begun.result.r c.new-begun.result.controls false) a.window.now) (map_in a.marks a.window_marks.now) l.i _ _ _ _ _ c.loop-i-test.false l.invariant.4)
