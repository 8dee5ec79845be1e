use Prim.Native.Nat.{ℕ, ◌-◌, ◌*◌, ◌≤◌}
use mathlib.Core.Path.{◌≡◌}
use mathlib.Core.List.{List, ◌++◌}
use lib.ListN.{length, drop}
use Rattle.place_marks.specs.Word.{map_in}
use Rattle.sheet.specs.Sheet.{line_of, lines_text}
use Rattle.sheet.proofs.lay_out.Given as goal

abbrev pub invariant-loop-n : goal.invariant-loop-n
invariant-loop-n l =
    (l.n ≤ 16) × (length l.page ≡ length l.initial.page) × ((w : List ℕ) → l.page ≡ lines_text l.n (line_of l.s (map_in l.marks w)) ++ drop (41 * l.n) l.initial.page)

abbrev pub decreases-loop-n : goal.decreases-loop-n
decreases-loop-n l = 16 - l.n
