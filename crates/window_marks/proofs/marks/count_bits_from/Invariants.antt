use Prim.Native.Nat.{◌+◌, ◌-◌}
use lib.ListN.{length, drop}
use mathlib.Core.Path.{◌≡◌}
use Rattle.window_marks.specs.Marks.{bits_only, ones_of}
use Rattle.window_marks.proofs.marks.count_bits_from.Given as goal

abbrev pub invariant-loop-i : goal.invariant-loop-i
invariant-loop-i l = (bits_only (drop l.i l.marks) ≡ bits_only (drop l.from l.marks)) × (l.ones + ones_of (drop l.i l.marks) ≡ l.before + ones_of (drop l.from l.marks))

abbrev pub decreases-loop-i : goal.decreases-loop-i
decreases-loop-i l = length l.marks - l.i
