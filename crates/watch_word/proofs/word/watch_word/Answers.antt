use mathlib.Core.Bool.{false}
use mathlib.Core.Path.{sym, ◌∙◌, refl}
use native.Mathlib.Omega.{arith}
use Rattle.machine.specs.Machine.{assembled}
use Rattle.machine.specs.Place.{state}
use Rattle.place_marks.specs.Word.{map_in}
use Rattle.watched_class.proofs.Classes.{by_watched_class, data_vfp}
use Rattle.watched_class.proofs.Worded.{stopping}
use Rattle.watch_word.proofs.word.watch_word.Goals as goal

pub watch_data-requires : goal.watch_data-requires
watch_data-requires c = let a = c.args in (c.requires.0, data_vfp a.op a.x.cpsr a.x.fpexc (map_in a.marks a.window_marks.now) (omega arith) (sym c.in-Data.is ∙ c.enabled_watched_class-class.ensures a.window_marks.now))

pub watch_access-requires : goal.watch_access-requires
watch_access-requires c = c.requires.1

pub returns-in-Data : goal.returns-in-Data
returns-in-Data c = let a = c.args in (by_watched_class a.base a.op (state (assembled a.s.now a.r.now a.x false) a.window.now) (map_in a.marks a.window_marks.now) _ _ (sym c.in-Data.is ∙ c.enabled_watched_class-class.ensures a.window_marks.now) (c.watch_data.ensures a.window.now a.window_marks.now), c.requires.1)

pub returns-in-Access : goal.returns-in-Access
returns-in-Access c = let a = c.args in (by_watched_class a.base a.op (state (assembled a.s.now a.r.now a.x false) a.window.now) (map_in a.marks a.window_marks.now) _ _ (sym c.in-Access.is ∙ c.enabled_watched_class-class.ensures a.window_marks.now) c.watch_access.ensures.0, c.watch_access.ensures.1)

pub returns-in-Transfer : goal.returns-in-Transfer
returns-in-Transfer c = let a = c.args in (by_watched_class a.base a.op (state (assembled a.s.now a.r.now a.x false) a.window.now) (map_in a.marks a.window_marks.now) _ _ (sym c.in-Transfer.is ∙ c.enabled_watched_class-class.ensures a.window_marks.now) (c.watch_transfer.ensures a.window.now a.window_marks.now), c.requires.1)

pub returns-in-Skipped : goal.returns-in-Skipped
returns-in-Skipped c = let a = c.args in (by_watched_class a.base a.op (state (assembled a.s.now a.r.now a.x false) a.window.now) (map_in a.marks a.window_marks.now) _ _ (sym c.in-Skipped.is ∙ c.enabled_watched_class-class.ensures a.window_marks.now) refl, c.requires.1)

pub returns-in-Foreign : goal.returns-in-Foreign
returns-in-Foreign c = let a = c.args in (by_watched_class a.base a.op (state (assembled a.s.now a.r.now a.x false) a.window.now) (map_in a.marks a.window_marks.now) _ _ (sym c.in-Foreign.is ∙ c.enabled_watched_class-class.ensures a.window_marks.now) (stopping _ (state (assembled a.s.now a.r.now a.x false) a.window.now) (map_in a.marks a.window_marks.now)), c.requires.1)

pub returns-in-Hangs : goal.returns-in-Hangs
returns-in-Hangs c = let a = c.args in (by_watched_class a.base a.op (state (assembled a.s.now a.r.now a.x false) a.window.now) (map_in a.marks a.window_marks.now) _ _ (sym c.in-Hangs.is ∙ c.enabled_watched_class-class.ensures a.window_marks.now) refl, c.requires.1)

pub returns-in-Off : goal.returns-in-Off
returns-in-Off c = let a = c.args in (by_watched_class a.base a.op (state (assembled a.s.now a.r.now a.x false) a.window.now) (map_in a.marks a.window_marks.now) _ _ (sym c.in-Off.is ∙ c.enabled_watched_class-class.ensures a.window_marks.now) (rw c.current_pc-pc.ensures), c.requires.1)
