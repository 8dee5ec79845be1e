-- Which place a line names next, and what the code tells of it.
use Rattle.std.specs.Prelude.{ℕ, Option, Some, None, Result, Ok, Err}
use Rattle.listing.specs.declared.line.Expected.{Expected}

-- a place with where to go on, the end of the line, or a mistake
pub data Next : Type 0 where
  Place : ℕ → ℕ → Next
  End : Next
  Mistake : Next

abbrev pub named : Result (Option (ℕ × ℕ)) Expected → Next
named (Ok (Some (p, n))) = Place p n
named (Ok None) = End
named (Err e) = Mistake
