-- What each routine gets first of a period.
use Rattle.std.specs.Prelude.{ℕ, min, List, [], ◌∷◌}

-- the smaller of each share and its words left
unfoldable pub shared : List ℕ → List ℕ → List ℕ
shared [] left = []
shared (s ∷ shares) [] = []
shared (s ∷ shares) (l ∷ left) = min s l ∷ shared shares left
