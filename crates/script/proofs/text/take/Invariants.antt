use Rattle.std.proofs.Common.{◌≡◌, ◌+◌, ◌-◌, ◌≤◌, length, drop}
use Rattle.place_marks.specs.Word.{map_in}
use Rattle.tokens.specs.Token.{lines_of}
use Rattle.script.specs.Layout.{layout_of}
use Rattle.script.specs.Item.{buffers}
use Rattle.script.specs.Text.{lines_reading, text_reading}
use Rattle.script.proofs.text.take.Given as goal

abbrev pub invariant-loop-at : goal.invariant-loop-at
invariant-loop-at l =
    (l.at ≤ length l.text + 1) × (l.line ≤ l.at + 1) × (lines_reading (lines_of (drop l.at l.text)) l.line (layout_of l.layout) (buffers l.state (map_in l.marks l.window_marks) l.window l.list) ≡ text_reading l.text (buffers l.initial.state (map_in l.initial.marks l.initial.window_marks) l.initial.window l.initial.list))

abbrev pub decreases-loop-at : goal.decreases-loop-at
decreases-loop-at l =
    length l.text + 1 - l.at
