use mathlib.Core.Path.{◌≡◌}
use mathlib.Core.Bool.{true}
use Prim.Native.Nat.{◌≤◌, ◌-◌}
use lib.Ieee.{binary32}
use Rattle.meaning.specs.Step.{after_marks}
use Rattle.memory.specs.LoadStore.{access_at}
use Rattle.place_marks.specs.Word.{map_in}
use Rattle.block_marks.proofs.mark_block_load.Given as goal

abbrev pub invariant-loop-i : goal.invariant-loop-i
invariant-loop-i l = (l.i ≤ l.count) × (map_in l.y l.window_marks ≡ after_marks l.i (access_at binary32 true l.base l.first.0 l.start) (map_in l.marks l.window_marks))

abbrev pub decreases-loop-i : goal.decreases-loop-i
decreases-loop-i l = l.count - l.i
