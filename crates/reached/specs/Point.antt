-- A watched run word by word: the state and the map before each.
use Rattle.std.specs.Prelude.{ℕ, zero, suc, ◌<◌, ◌≡◌, ◌⊎◌, List, [], get_or}
use Rattle.machine.specs.Place.{State}
use Rattle.meaning.specs.Map.{Map}
use Rattle.meaning.specs.Step.{Act, step}
use Rattle.meaning.specs.Tree.{Tree, Next, on, last, Seen, watched}
use Rattle.meaning.specs.Run.{advance}
use Rattle.chains.specs.Steps.{Event, steps_of, act_of, events_at, run_steps}

pub record Point : Type 0 where
  pub st : State
  pub map : Map

-- what follows a word that is counted
abbrev pub Goes : Next → Type 0
Goes x = (x ≡ on) ⊎ (x ≡ last)

module _ (M : ℕ → Tree) (ws : List ℕ) (st : State) (μ : Map) where
  -- before word j, all words before it having been run
  unfoldable pub point_at : ℕ → Point
  point_at zero = record { st = st; map = μ }
  point_at (suc j) =
      let p = point_at j in
      let o = watched (M (get_or ws j 0)) p.st p.map in
      record { st = step advance o.st; map = o.map }

  -- what word j is then seen to do, and its act
  abbrev pub seen_at : ℕ → Seen
  seen_at j = watched (M (get_or ws j 0)) (point_at j).st (point_at j).map

  abbrev pub act_at : ℕ → Act
  act_at j = act_of (M (get_or ws j 0)) (point_at j).st

  -- it is counted
  abbrev pub CountedAt : ℕ → Type 0
  CountedAt j = Goes (seen_at j).next

  -- the steps of the first j words, before others
  unfoldable pub logged : ℕ → List Event → List Event
  logged zero es = es
  logged (suc j) es = logged j (events_at j (steps_of (act_at j)) es)

  -- the run has ended, j words having been counted: its steps are theirs
  pub record Ran (j : ℕ) : Type 0 where
    pub steps : run_steps M ws 0 st μ ≡ logged j []
    pub counted : (i : ℕ) → i < j → CountedAt i
