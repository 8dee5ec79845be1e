-- Both runs over a list of words, for any assignment M of trees to words.
use Rattle.std.specs.Prelude.{ℕ, suc, List, [], ◌∷◌}
use Rattle.machine.specs.Place.{State, core}
use Rattle.meaning.specs.Map.{Map}
use Rattle.meaning.specs.Step.{Step, step, grow}
use Rattle.meaning.specs.Stop.{Stop, finished, branched}
use Rattle.meaning.specs.Tree.{Tree, Next, on, last, halt, plain, watched}

-- after a counted word that does not branch r15 grows by 4
abbrev pub advance : Step
advance = grow (core 15) 4 ∷ []

-- how a plain run ends
pub record Ended : Type 0 where
  pub st : State
  pub count : ℕ
  pub stop : Stop

abbrev pub ended : State → ℕ → Stop → Ended
ended st n s = record { st = st; count = n; stop = s }

-- after a word that left st, n words having been counted before it; more is the run of the words that follow
unfoldable pub follow : Next → State → ℕ → Ended → Ended
follow on st n more = more
follow last st n more = ended st (suc n) branched
follow (halt s) st n more = ended st n s

-- the plain run from a state, n words having been counted
unfoldable pub run : (ℕ → Tree) → List ℕ → ℕ → State → Ended
run M [] n st = ended st n finished
run M (w ∷ ws) n st =
    let o = plain (M w) st in
    follow o.next o.st n (run M ws (suc n) (step advance o.st))

-- the same, watched
pub record Watched : Type 0 where
  pub st : State
  pub map : Map
  pub count : ℕ
  pub stop : Stop

abbrev pub ended_with : State → Map → ℕ → Stop → Watched
ended_with st μ n s = record { st = st; map = μ; count = n; stop = s }

unfoldable pub follow_with : Next → State → Map → ℕ → Watched → Watched
follow_with on st μ n more = more
follow_with last st μ n more = ended_with st μ (suc n) branched
follow_with (halt s) st μ n more = ended_with st μ n s

unfoldable pub watch : (ℕ → Tree) → List ℕ → ℕ → State → Map → Watched
watch M [] n st μ = ended_with st μ n finished
watch M (w ∷ ws) n st μ =
    let o = watched (M w) st μ in
    follow_with o.next o.st o.map n (watch M ws (suc n) (step advance o.st) o.map)
