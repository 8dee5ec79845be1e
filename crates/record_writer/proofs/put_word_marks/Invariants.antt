use Prim.Native.Nat.{◌+◌, ◌-◌, ◌*◌, ◌/◌, ◌^◌, ◌≤◌}
use lib.ListN.{length, take}
use mathlib.Core.Path.{◌≡◌}
use Rattle.machine.specs.Place.{before}
use Rattle.records.specs.Number.{written, laid}
use Rattle.records.specs.Recorded.{marks_of_word}
use Rattle.record_writer.proofs.put_word_marks.Given as goal

abbrev pub invariant-loop-i : goal.invariant-loop-i
invariant-loop-i l =
    (l.i ≤ before) × (length l.to ≡ length l.initial.to) × (l.next ≡ l.at + 4 * l.i) × (l.rest ≡ l.marks / 2 ^ l.i) ×
    (l.to ≡ laid l.initial.to l.at (written (take l.i (marks_of_word before l.marks))))

abbrev pub decreases-loop-i : goal.decreases-loop-i
decreases-loop-i l = before - l.i
