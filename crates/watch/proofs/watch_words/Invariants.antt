use Rattle.run_log.proofs.Logging.{Going}
use Rattle.place_marks.specs.Word.{map_in}
use Rattle.window_marks.specs.Marks.{ones_of}
use Rattle.machine.specs.Place.{state}
use Rattle.machine.specs.Machine.{assembled}
use lib.ListN.{length}
use mathlib.Core.Bool.{false}
use mathlib.Core.Path.{◌≡◌}
use Prim.Native.Nat.{◌≤◌, ◌-◌}
use Rattle.watch.proofs.watch_words.Given as goal

abbrev pub invariant-loop-i : goal.invariant-loop-i
invariant-loop-i l =
    (l.i ≤ length l.list) × (length l.window ≡ length l.initial.window) × (length l.window_marks ≡ length l.initial.window_marks) × (l.words ≡ ones_of l.window_marks)
    × Going l.base l.list (state (assembled l.initial.s l.initial.r l.initial.x false) l.initial.window) (map_in l.initial.known l.initial.window_marks) l.i (state (assembled l.s l.r l.x false) l.window) (map_in l.known l.window_marks) l.log_marks l.log_values l.log_skips
    × (length l.log_marks ≡ length l.initial.log_marks) × (length l.log_values ≡ length l.initial.log_values) × (length l.log_skips ≡ length l.initial.log_skips)

abbrev pub decreases-loop-i : goal.decreases-loop-i
decreases-loop-i l = length l.list - l.i
