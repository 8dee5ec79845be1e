-- What a text comes to: its lines in turn, up to the first mistake.
use Rattle.std.specs.Prelude.{ℕ, suc, false, List, [], ◌∷◌, take}
use Rattle.tokens.specs.Token.{content_of, lines_of}
use Rattle.script.specs.Layout.{Layout}
use Rattle.script.specs.Step.{Step}
use Rattle.script.specs.Step as step
use Rattle.script.specs.Taken.{Taken, All, Wrong}
use Rattle.script.specs.Item.{Buffers, line_outcome}

-- the layout, or the first mistake with its line's number, and the buffers
pub record Reading : Type 0 where
  pub taken : Taken
  pub buffers : Buffers

abbrev pub reading : Taken → Buffers → Reading
reading t b = record { taken = t; buffers = b }

-- what follows a line of a number
abbrev pub follow : ℕ → Step → Buffers → (Layout → Buffers → Reading) → Reading
follow n (step.On y) b f = f y b
follow n (step.Wrong m) b f = reading (Wrong n m) b

-- lines of which the first has a number; what counts of a line stands before its comment
unfoldable pub lines_reading : List (List ℕ) → ℕ → Layout → Buffers → Reading
lines_reading [] n y b = reading (All y) b
lines_reading (l ∷ ls) n y b =
    let o = line_outcome (take (content_of l) l) y b in
    follow n o.step o.buffers (λ y' b'. lines_reading ls (suc n) y' b')

-- before the first line: no window and no word
abbrev pub no_layout : Layout
no_layout = record { base = 0; words = 0; given = false; count = 0 }

unfoldable pub text_reading : List ℕ → Buffers → Reading
text_reading t b = lines_reading (lines_of t) 1 no_layout b
