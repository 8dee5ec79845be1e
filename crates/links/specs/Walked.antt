-- What is left once a word was walked back.
use Rattle.std.specs.Prelude.{ℕ, ◌+◌, ◌≤◌, ◌≡◌, false, List, length}
use Rattle.machine.specs.Place.{State, place}
use Rattle.meaning.specs.Map.{Map, known}
use Rattle.meaning.specs.Step.{Act, act_marks}
use Rattle.meaning.specs.Tree.{Tree}
use Rattle.meaning.specs.Hang.{clear, hang_of}
use Rattle.chains.specs.Steps.{act_of}
use Rattle.chains.specs.Chain.{Pair, Way}
use Rattle.place_marks.specs.Word.{map_in}
use Rattle.links.specs.declared.Back.{Back}
use Rattle.links.specs.Pairs.{laid}

-- Of the act a of the word of index i, from place q with k pairs in the list l: a way, for every map with these marks before the window of which G holds, and after
-- which q is unknown. Its pairs are laid into the list, at most 8.
pub record WalkedIf (G : Map → Type 0) (a : Act) (i m q k : ℕ) (l l' : List ℕ) (y : Back) : Type 0 where
  pub pairs : List Pair
  pub list : l' ≡ laid l k pairs
  pub count : y.pairs ≡ k + length pairs
  pub few : length pairs ≤ 8
  pub way : (w : List ℕ) → G (map_in m w) → known (act_marks a (map_in m w)) (place q) ≡ false → Way i a (map_in m w) (place y.place) pairs (place q)

abbrev pub WalkedAct : Act → ℕ → ℕ → ℕ → ℕ → List ℕ → List ℕ → Back → Type 0
WalkedAct = WalkedIf (λ μ. Unit {0})

-- of a word with the tree t in a state: where it does not hang
abbrev pub Walked : Tree → State → ℕ → ℕ → ℕ → ℕ → List ℕ → List ℕ → Back → Type 0
Walked t st = WalkedIf (λ μ. hang_of t st μ ≡ clear) (act_of t st)
