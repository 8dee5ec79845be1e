-- Pairs in a list of numbers, an index and the number of a place each.
use Rattle.std.specs.Prelude.{ℕ, ◌+◌, ◌-◌, ◌*◌, ◌<◌, ◌≤◌, ◌≡◌, List, [], ◌∷◌, length, get_or, set}
use Rattle.machine.specs.Place.{number}
use Rattle.chains.specs.Chain.{Pair}
use Rattle.sources.specs.declared.Source.{Source}
use Rattle.sources.specs.declared.Source.TheVariants.{Kept, From}
use Rattle.links.specs.declared.Back.{Back}

-- the numbers of pairs in order
abbrev pub numbers : List Pair → List ℕ
numbers [] = []
numbers (x ∷ ps) = x.index ∷ number x.place ∷ numbers ps

-- a list with pair k
abbrev pub with_pair : ℕ → ℕ → ℕ → List ℕ → List ℕ
with_pair k index place l = set (set l (2 * k) index) (2 * k + 1) place

-- a list with pairs from pair k on, the last first
abbrev pub laid : List ℕ → ℕ → List Pair → List ℕ
laid l k [] = l
laid l k (x ∷ ps) = with_pair (k + length ps) x.index (number x.place) (laid l k ps)

-- one step back
abbrev pub back_of : Source → ℕ → ℕ → Back
back_of Kept q k = record { place = q; pairs = k }
back_of (From p) q k = record { place = p; pairs = k + 1 }

abbrev pub linked_in : Source → ℕ → ℕ → ℕ → List ℕ → List ℕ
linked_in Kept index q k l = l
linked_in (From p) index q k l = with_pair k index q l

-- pairs i and j exchanged
abbrev pub swapped : ℕ → ℕ → List ℕ → List ℕ
swapped i j l = with_pair j (get_or l (2 * i) 0) (get_or l (2 * i + 1) 0) (with_pair i (get_or l (2 * j) 0) (get_or l (2 * j + 1) 0) l)

-- l' has the first n pairs of l in the opposite order
pub record Turned (n : ℕ) (l l' : List ℕ) : Type 0 where
  pub size : length l' ≡ length l
  pub index : (t : ℕ) → t < n → get_or l' (2 * t) 0 ≡ get_or l (2 * (n - 1 - t)) 0
  pub place : (t : ℕ) → t < n → get_or l' (2 * t + 1) 0 ≡ get_or l (2 * (n - 1 - t) + 1) 0
  pub rest : (t : ℕ) → 2 * n ≤ t → get_or l' t 0 ≡ get_or l t 0
