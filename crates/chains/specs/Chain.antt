-- Where an unknown place came from: a chain of places through the steps of a watched run.
use Rattle.std.specs.Prelude.{ℕ, ◌≡◌, Bool, false, cond, ◌&&◌, ◌||◌, ◌⊎◌, List, [], ◌∷◌, eqb}
use Rattle.machine.specs.Place.{Place, single, core, word, flags, control, exc, nzcv, exceptions, State}
use Rattle.meaning.specs.Map.{Map, known}
use Rattle.meaning.specs.Step.{Step, Act, step_marks}
use Rattle.meaning.specs.Tree.{Tree}
use Rattle.chains.specs.Steps.{Event, steps_of, events_at, run_steps}

-- whether two places are one: of one kind and, where there are several of it, with one number
abbrev pub kind : Place → ℕ
kind (single n) = 0
kind (core n) = 1
kind (word n) = 2
kind flags = 3
kind control = 4
kind exc = 5
kind nzcv = 6
kind exceptions = 7

abbrev pub ordinal : Place → ℕ
ordinal (single n) = n
ordinal (core n) = n
ordinal (word n) = n
ordinal flags = 0
ordinal control = 0
ordinal exc = 0
ordinal nzcv = 0
ordinal exceptions = 0

abbrev pub same : Place → Place → Bool
same p q = eqb (kind p) (kind q) && eqb (ordinal p) (ordinal q)

-- whether a step writes a place, and what the last write of it reads
abbrev pub writes : Step → Place → Bool
writes [] q = false
writes (w ∷ ws) q = writes ws q || same w.target q

abbrev pub reads : Step → Place → List Place
reads [] q = []
reads (w ∷ ws) q = cond (writes ws q) (reads ws q) (cond (same w.target q) w.sources [])

abbrev pub Among : Place → List Place → Type 0
Among p [] = ⊥
Among p (q ∷ qs) = (p ≡ q) ⊎ Among p qs

-- a word's index and the place that it makes unknown
pub record Pair : Type 0 where
  pub index : ℕ
  pub place : Place

-- From p before some steps by the pairs to q after them; μ is the map before the steps.
pub data Through : List Event → Map → Place → List Pair → Place → Type 0 where
  -- no step is left
  ends : {μ : Map} {q : Place} → Through [] μ q [] q
  -- a step that does not write the place
  keeps : {e : Event} {es : List Event} {μ : Map} {p q : Place} {ps : List Pair}
      → writes e.step p ≡ false → Through es (step_marks e.step μ) p ps q → Through (e ∷ es) μ p ps q
  -- a link: for the next place, r, the step reads p, and it leaves r unknown
  links : {e : Event} {es : List Event} {μ : Map} {p q r : Place} {ps : List Pair}
      → Among p (reads e.step r) → known (step_marks e.step μ) r ≡ false → Through es (step_marks e.step μ) r ps q
      → Through (e ∷ es) μ p (record { index = e.index; place = r } ∷ ps) q

-- a chain to q of the watched run of a list from a state and a map: from a place that is unknown at the start
pub record Chain (M : ℕ → Tree) (ws : List ℕ) (st : State) (μ : Map) (first : Place) (ps : List Pair) (q : Place) : Type 0 where
  pub unknown : known μ first ≡ false
  pub through : Through (run_steps M ws 0 st μ) μ first ps q

-- a way through the act of the word of index i: from a place that is unknown before it
pub record Way (i : ℕ) (a : Act) (μ : Map) (p : Place) (ps : List Pair) (q : Place) : Type 0 where
  pub unknown : known μ p ≡ false
  pub through : Through (events_at i (steps_of a) []) μ p ps q
