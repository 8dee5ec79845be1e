-- What a word means: it asks for the values of places, one after the other, and then stops or acts.
use Rattle.std.specs.Prelude.{ℕ, cond}
use Rattle.machine.specs.Place.{Place, State, get, number}
use Rattle.meaning.specs.Map.{Map, known}
use Rattle.meaning.specs.Step.{Act, act, act_marks}
use Rattle.meaning.specs.Stop.{Stop, finished, branched, hangs}

pub data Tree : Type 0 where
  -- the word is not counted and changes nothing
  stop : Stop → Tree
  -- it is counted, and the run goes on
  go : Act → Tree
  -- it is counted, and the run stops Branched
  branch : Act → Tree
  -- it looks at a place before it is decided what it does
  ask : Place → (ℕ → Tree) → Tree

-- what follows a word: the next one, or a stop after it or before it
pub data Next : Type 0 where
  on : Next
  last : Next
  halt : Stop → Next

-- what one of the three ported calls reports of a word
abbrev pub exit_of : Next → Stop
exit_of on = finished
exit_of last = branched
exit_of (halt s) = s

-- the plain evaluation
pub record Out : Type 0 where
  pub st : State
  pub next : Next

abbrev pub out : State → Next → Out
out st x = record { st = st; next = x }

unfoldable pub plain : Tree → State → Out
plain (stop s) st = out st (halt s)
plain (go a) st = out (act a st) on
plain (branch a) st = out (act a st) last
plain (ask p k) st = plain (k (get st p)) st

-- the watched evaluation: where the word asks for an unknown place, it hangs there
pub record Seen : Type 0 where
  pub st : State
  pub map : Map
  pub next : Next

abbrev pub seen : State → Map → Next → Seen
seen st μ x = record { st = st; map = μ; next = x }

unfoldable pub watched : Tree → State → Map → Seen
watched (stop s) st μ = seen st μ (halt s)
watched (go a) st μ = seen (act a st) (act_marks a μ) on
watched (branch a) st μ = seen (act a st) (act_marks a μ) last
watched (ask p k) st μ = cond (known μ p) (watched (k (get st p)) st μ) (seen st μ (halt (hangs (number p))))
