use Prim.Native.Nat.{◌≤◌}
use lib.ListN.{take, drop}
use mathlib.Core.Path.{◌≡◌}
use Rattle.machine.specs.Place.{before}
use Rattle.records.specs.Number.{numbers_of}
use Rattle.records.specs.Recorded.{word_of_marks}
use Rattle.record_marks.proofs.word.Given as goal

abbrev pub invariant-loop-i : goal.invariant-loop-i
invariant-loop-i l = (l.i ≤ before) × (l.w ≡ word_of_marks (drop l.i (take before (drop l.from (numbers_of l.bytes)))))

abbrev pub decreases-loop-i : goal.decreases-loop-i
decreases-loop-i l = l.i
