use Prim.Native.Nat.{◌+◌, ◌*◌, ◌%◌, ◌^◌, ◌≤◌, ◌-◌}
use lib.ListN.{drop}
use mathlib.Core.Path.{◌≡◌}
use Rattle.window_marks.specs.Marks.{bits_only, ones_of}
use Rattle.window_marks.proofs.marks.count_words.Given as goal

abbrev pub invariant-loop-i : goal.invariant-loop-i
invariant-loop-i l = (l.i ≤ l.n) × (bits_only (drop (l.from + 8 * l.i) l.marks) ≡ bits_only (drop l.from l.marks)) × (l.sum % 255 + ones_of (drop (l.from + 8 * l.i) l.marks) ≡ ones_of (drop l.from l.marks)) × (l.sum % 255 ≤ 8 * l.i) × (l.sum ≤ l.i * 2 ^ 57)

abbrev pub decreases-loop-i : goal.decreases-loop-i
decreases-loop-i l = l.n - l.i
