-- A text that grows piece by piece.
use Prim.Native.Nat.{ℕ}
use mathlib.Core.Path.{◌≡◌, ◌∙◌, ap}
use mathlib.Core.List.{List, [], ◌++◌}
use Rattle.text.specs.Text.{clip}
use Rattle.text.proofs.Clipping.{clip-clip}

-- nothing yet
pub begun : (t : List ℕ) → t ≡ [] → t ≡ clip []
unfolding clip
begun t e = e

-- a piece after others
pub more : (x t d r : List ℕ) → t ≡ clip x → r ≡ clip (t ++ d) → r ≡ clip (x ++ d)
more x t d r e f = f ∙ ap (λ (l : List ℕ). clip (l ++ d)) e ∙ clip-clip x d

-- the same pieces in another grouping
pub ended : (x y r : List ℕ) → r ≡ clip x → x ≡ y → r ≡ clip y
ended x y r e f = e ∙ ap clip f
