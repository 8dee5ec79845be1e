use Rattle.std.proofs.Common.{◌≡◌, ℕ, ◌-◌, List, length, drop}
use Rattle.place_marks.specs.Word.{map_in}
use Rattle.tokens.specs.Token.{words_of}
use Rattle.script.specs.Layout.{layout_of}
use Rattle.script.specs.Item.{buffers, unknown_outcome}
use Rattle.script.proofs.item.mark_all_unknown.Given as goal

abbrev pub invariant-loop-place : goal.invariant-loop-place
invariant-loop-place it =
    (s w l : List ℕ) → unknown_outcome (words_of (drop it.at it.line)) (layout_of it.layout) (buffers s (map_in it.marks it.window_marks) w l) ≡ unknown_outcome (words_of (drop it.from it.line)) (layout_of it.layout) (buffers s (map_in it.initial.marks it.initial.window_marks) w l)

abbrev pub decreases-loop-place : goal.decreases-loop-place
decreases-loop-place l = length l.line - l.at
