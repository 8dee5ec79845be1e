use Prim.Native.Nat.{◌≤◌, ◌-◌}
use lib.ListN.{length, drop}
use mathlib.Core.Bool.{false}
use mathlib.Core.Path.{◌≡◌}
use Rattle.word_class.specs.Word.{meaning}
use Rattle.meaning.specs.Run.{run}
use Rattle.machine.specs.Place.{state}
use Rattle.machine.specs.Machine.{assembled}
use Rattle.run.proofs.run_words.Given as goal

abbrev pub invariant-loop-i : goal.invariant-loop-i
invariant-loop-i l = (l.i ≤ length l.list) × (length l.window ≡ length l.initial.window) × (run (meaning l.base) (drop l.i l.list) l.i (state (assembled l.s l.r l.x false) l.window) ≡ run (meaning l.base) l.list 0 (state (assembled l.initial.s l.initial.r l.initial.x false) l.initial.window))

abbrev pub decreases-loop-i : goal.decreases-loop-i
decreases-loop-i l = length l.list - l.i
