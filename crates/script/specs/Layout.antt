-- The layout of what was read so far, and what the code tells of it.
use Rattle.std.specs.Prelude.{ℕ, Bool}
use Rattle.script.specs.declared.item.Layout as item

-- the window's base and count of words, whether one was given, and the count of instruction words
pub record Layout : Type 0 where
  pub base : ℕ
  pub words : ℕ
  pub given : Bool
  pub count : ℕ

abbrev pub layout_of : item.Layout → Layout
layout_of y = record { base = y.window.base; words = y.window.words; given = y.given; count = y.count }
