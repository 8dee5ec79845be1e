-- What a line's item is, and what the code tells of it.
use Rattle.std.specs.Prelude.{ℕ, Result, Ok, Err}
use Rattle.listing.specs.declared.line.Item as declared
use Rattle.listing.specs.declared.line.Item.TheVariants as line
use Rattle.listing.specs.declared.line.Expected.{Expected}

-- no item, one of four kinds, or a mistake, by what the line should have had
pub data Item : Type 0 where
  Nothing : Item
  Word : ℕ → Item
  Set : ℕ → ℕ → Item
  Unknown : ℕ → Item
  Window : ℕ → ℕ → Item
  Mistake : Expected → Item

-- an item that was read
abbrev pub read : declared.Item → Item
read line.Nothing = Nothing
read (line.Word x) = Word x
read (line.Set p x) = Set p x
read (line.Unknown n) = Unknown n
read (line.Window b n) = Window b n

-- an item, or a mistake
abbrev pub told : Result declared.Item Expected → Item
told (Ok i) = read i
told (Err e) = Mistake e
