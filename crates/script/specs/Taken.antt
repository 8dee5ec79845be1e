-- What a text comes to, and what the code tells of it.
use Rattle.std.specs.Prelude.{ℕ, Result, Ok, Err}
use Rattle.script.specs.declared.item.Layout as item
use Rattle.script.specs.declared.mistake.Mistake.{Mistake}
use Rattle.script.specs.declared.mistake.MistakeAt.{MistakeAt}
use Rattle.script.specs.Layout.{Layout, layout_of}

-- the layout after all lines, or the first mistake with its line's number
pub data Taken : Type 0 where
  All : Layout → Taken
  Wrong : ℕ → Mistake → Taken

abbrev pub taken_as : Result item.Layout MistakeAt → Taken
taken_as (Ok y) = All (layout_of y)
taken_as (Err e) = Wrong e.line e.mistake
