use Prim.Native.Nat.{◌-◌, ◌≤◌}
use lib.ListN.{length, take, drop}
use mathlib.Core.Path.{◌≡◌}
use Rattle.records.specs.Number.{numbers_of}
use Rattle.record_numbers.proofs.fill.Given as goal

abbrev pub invariant-loop-i : goal.invariant-loop-i
invariant-loop-i l = (l.i ≤ length l.initial.to) × (length l.to ≡ length l.initial.to) × (take l.i l.to ≡ take l.i (take (length l.initial.to) (drop l.from (numbers_of l.bytes))))

abbrev pub decreases-loop-i : goal.decreases-loop-i
decreases-loop-i l = length l.initial.to - l.i
