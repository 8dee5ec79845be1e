-- What a line comes to, and what the code tells of it.
use Rattle.std.specs.Prelude.{Result, Ok, Err}
use Rattle.script.specs.declared.item.Layout as item
use Rattle.script.specs.declared.mistake.Mistake.{Mistake}
use Rattle.script.specs.Layout.{Layout, layout_of}

-- the layout after a line, or a mistake
pub data Step : Type 0 where
  On : Layout → Step
  Wrong : Mistake → Step

abbrev pub told : Result item.Layout Mistake → Step
told (Ok y) = On (layout_of y)
told (Err m) = Wrong m
