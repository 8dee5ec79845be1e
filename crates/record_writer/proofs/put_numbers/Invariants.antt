use Prim.Native.Nat.{◌+◌, ◌-◌, ◌*◌, ◌≤◌}
use lib.ListN.{length, take}
use mathlib.Core.Path.{◌≡◌}
use Rattle.records.specs.Number.{written, laid}
use Rattle.record_writer.proofs.put_numbers.Given as goal

abbrev pub invariant-loop-i : goal.invariant-loop-i
invariant-loop-i l =
    (l.i ≤ length l.words) × (length l.to ≡ length l.initial.to) × (l.next ≡ l.at + 4 * l.i) × (l.to ≡ laid l.initial.to l.at (written (take l.i l.words)))

abbrev pub decreases-loop-i : goal.decreases-loop-i
decreases-loop-i l = length l.words - l.i
