use Prim.Native.Nat.{◌+◌, ◌-◌}
use lib.ListN.{length, drop}
use mathlib.Core.Path.{◌≡◌}
use Rattle.window_marks.specs.Marks.{ones_of}
use Rattle.window_marks.proofs.marks.count_ones.Given as goal

abbrev pub invariant-loop-i : goal.invariant-loop-i
invariant-loop-i l = l.ones + ones_of (drop l.i l.marks) ≡ ones_of l.marks

abbrev pub decreases-loop-i : goal.decreases-loop-i
decreases-loop-i l = length l.marks - l.i
