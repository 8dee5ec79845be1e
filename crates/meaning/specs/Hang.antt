-- A watched word in two halves: the place that it hangs on, if any, and the map that it leaves. The law `split` of proofs/Laws.antt says that
-- the two halves and the plain evaluation are the watched one.
use Rattle.std.specs.Prelude.{cond, ℕ}
use Rattle.machine.specs.Place.{State, get, number}
use Rattle.meaning.specs.Map.{Map, known}
use Rattle.meaning.specs.Step.{act_marks}
use Rattle.meaning.specs.Tree.{Tree, stop, go, branch, ask}

pub data Hang : Type 0 where
  clear : Hang
  at : ℕ → Hang

-- the first place that a word asks for and the map calls unknown
unfoldable pub hang_of : Tree → State → Map → Hang
hang_of (stop s) st μ = clear
hang_of (go a) st μ = clear
hang_of (branch a) st μ = clear
hang_of (ask p k) st μ = cond (known μ p) (hang_of (k (get st p)) st μ) (at (number p))

-- the map after a word that does not hang
unfoldable pub marked : Tree → State → Map → Map
marked (stop s) st μ = μ
marked (go a) st μ = act_marks a μ
marked (branch a) st μ = act_marks a μ
marked (ask p k) st μ = marked (k (get st p)) st μ
