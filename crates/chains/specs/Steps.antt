-- The steps of a watched run, in the order in which they are made.
use Rattle.std.specs.Prelude.{ℕ, zero, suc, cond, List, [], ◌∷◌}
use Rattle.machine.specs.Place.{State, get}
use Rattle.meaning.specs.Map.{Map, known}
use Rattle.meaning.specs.Step.{Step, Act, step, step_marks, nothing}
use Rattle.meaning.specs.Tree.{Tree, stop, go, branch, ask, Next, on, last, halt, watched}
use Rattle.meaning.specs.Run.{advance}

-- a step that the word of this index makes
pub record Event : Type 0 where
  pub index : ℕ
  pub step : Step

-- the first n steps of a family, before others
unfoldable pub family : ℕ → (ℕ → Step) → List Step → List Step
family zero each more = more
family (suc n) each more = family n each (each n ∷ more)

abbrev pub steps_of : Act → List Step
steps_of a = family a.count a.each (a.tail ∷ [])

-- the steps of a watched word: none where it stops, hangs or is skipped
unfoldable pub word_steps : Tree → State → Map → List Step
word_steps (stop s) st μ = []
word_steps (go a) st μ = steps_of a
word_steps (branch a) st μ = steps_of a
word_steps (ask p k) st μ = cond (known μ p) (word_steps (k (get st p)) st μ) []

-- the act of a word in a state; none where it stops
unfoldable pub act_of : Tree → State → Act
act_of (stop s) st = nothing
act_of (go a) st = a
act_of (branch a) st = a
act_of (ask p k) st = act_of (k (get st p)) st

-- the steps of the word of index i, before others
abbrev pub events_at : ℕ → List Step → List Event → List Event
events_at i [] es = es
events_at i (x ∷ xs) es = record { index = i; step = x } ∷ events_at i xs es

abbrev pub going_on : Next → List Event → List Event
going_on on es = es
going_on last es = []
going_on (halt s) es = []

-- the steps of a watched run from a state and a map, i words having been counted; the growth of r15 between two words is none of them
unfoldable pub run_steps : (ℕ → Tree) → List ℕ → ℕ → State → Map → List Event
run_steps M [] i st μ = []
run_steps M (w ∷ ws) i st μ =
    let o = watched (M w) st μ in
    events_at i (word_steps (M w) st μ) (going_on o.next (run_steps M ws (suc i) (step advance o.st) o.map))

-- the map after some steps
unfoldable pub marks_after : List Event → Map → Map
marks_after [] μ = μ
marks_after (e ∷ es) μ = marks_after es (step_marks e.step μ)
