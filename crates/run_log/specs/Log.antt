-- What is logged of each word of a watched run: the marks before it, the value that it asks for, and whether its condition fails.
use Rattle.std.specs.Prelude.{ℕ, ◌<◌, ◌≤◌, ◌≡◌, Bool, false, not, List, get_or, length}
use Rattle.bits.specs.Field.{field}
use Rattle.bits.specs.Psr.{holds}
use Rattle.machine.specs.Place.{State}
use Rattle.meaning.specs.Map.{Map}
use Rattle.place_marks.specs.Word.{map_in}
use Rattle.word_class.specs.Word.{meaning}
use Rattle.reached.specs.Point.{point_at, Ran}
use Rattle.word_sources.specs.Value.{value_of}

-- of the first n words of a list from a state and a map; the window's marks before a word are not logged
pub record Log (base : ℕ) (list : List ℕ) (st : State) (μ : Map) (n : ℕ) (ms vs : List ℕ) (ss : List Bool) : Type 0 where
  pub marks : (i : ℕ) → i < n → let p = point_at (meaning base) list st μ i in p.map ≡ map_in (get_or ms i 0) p.map.words
  pub value : (i : ℕ) → i < n → get_or vs i 0 ≡ value_of (get_or list i 0) (point_at (meaning base) list st μ i).st
  pub skip : (i : ℕ) → i < n → get_or ss i false ≡ not (holds (field (get_or list i 0) 28 31) (point_at (meaning base) list st μ i).st.machine.cpsr)

-- the run has counted n words, and where the log has room for the whole list these are logged
pub record Logged (base : ℕ) (list : List ℕ) (st : State) (μ : Map) (n : ℕ) (ms vs : List ℕ) (ss : List Bool) : Type 0 where
  pub ran : Ran (meaning base) list st μ n
  pub log : length list ≤ length ms → Log base list st μ n ms vs ss
