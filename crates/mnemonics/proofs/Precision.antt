-- A piece in the precision that a test showed.
use Prim.Native.Nat.{ℕ}
use mathlib.Core.Path.{◌≡◌}
use mathlib.Core.Bool.{Bool}
use mathlib.Core.List.{List, ◌++◌}
use lib.Ieee.{Format}
use Rattle.addresses.specs.Address.{format_of}
use Rattle.text.specs.Text.{clip}

pub at_precision : (x t : List ℕ) (g : Format → List ℕ) {b b' : Bool} → b ≡ b' → t ≡ clip (x ++ g (format_of b)) → t ≡ clip (x ++ g (format_of b'))
at_precision x t g e h = rw (← e) h
