-- The chain (document 02's term, crate chains) that is given.
use Rattle.std.specs.Prelude.{ℕ, ◌*◌, ◌≤◌, ◌≡◌, List, ◌++◌, length, drop}
use Rattle.machine.specs.Place.{State, place}
use Rattle.meaning.specs.Map.{Map}
use Rattle.word_class.specs.Word.{meaning}
use Rattle.chains.specs.Chain.{Pair, Chain}
use Rattle.links.specs.Pairs.{numbers}

-- A chain to q of the run of a list from a state and a map: its first place by its number, and n pairs, at the front of the list l'; the rest of that is as in l.
-- Which of several chains it is is left free.
pub record Given (base : ℕ) (list : List ℕ) (st : State) (μ : Map) (q count : ℕ) (l l' : List ℕ) (first n : ℕ) : Type 0 where
  pub pairs : List Pair
  pub chain : Chain (meaning base) list st μ (place first) pairs (place q)
  pub size : n ≡ length pairs
  pub few : n ≤ 8 * count
  pub laid : l' ≡ numbers pairs ++ drop (2 * n) l
