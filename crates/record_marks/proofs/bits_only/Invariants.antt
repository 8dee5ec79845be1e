use Prim.Native.Nat.{◌-◌, ◌≤◌}
use lib.ListN.{take, drop}
use mathlib.Core.Path.{◌≡◌}
use Rattle.records.specs.Number.{numbers_of}
use Rattle.window_marks.specs.Marks.{bits_only}
use Rattle.record_marks.proofs.bits_only.Given as goal

abbrev pub invariant-loop-i : goal.invariant-loop-i
invariant-loop-i l =
    (l.i ≤ l.count) × (bits_only (drop l.i (take l.count (drop l.from (numbers_of l.bytes)))) ≡ bits_only (take l.count (drop l.from (numbers_of l.bytes))))

abbrev pub decreases-loop-i : goal.decreases-loop-i
decreases-loop-i l = l.count - l.i
