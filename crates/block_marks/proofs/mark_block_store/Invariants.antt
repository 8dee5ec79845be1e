use mathlib.Core.Path.{◌≡◌}
use mathlib.Core.Bool.{false}
use Prim.Native.Nat.{◌+◌, ◌≤◌, ◌-◌}
use lib.Ieee.{binary32}
use lib.ListN.{length}
use Rattle.window_marks.specs.Marks.{ones_of}
use Rattle.meaning.specs.Step.{after_marks}
use Rattle.memory.specs.LoadStore.{access_at}
use Rattle.place_marks.specs.Word.{map_in}
use Rattle.block_marks.proofs.mark_block_store.Given as goal

abbrev pub invariant-loop-i : goal.invariant-loop-i
invariant-loop-i l = (l.i ≤ l.count) × (length l.window_marks ≡ length l.initial.window_marks) × (l.ones + l.y ≡ ones_of l.window_marks + 32) × (l.y ≤ l.i + 32) × (32 ≤ l.y + l.i) × (map_in l.marks l.window_marks ≡ after_marks l.i (access_at binary32 false l.base l.first.0 l.start) (map_in l.marks l.initial.window_marks))

abbrev pub decreases-loop-i : goal.decreases-loop-i
decreases-loop-i l = l.count - l.i
