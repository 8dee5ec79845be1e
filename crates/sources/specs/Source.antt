-- What one step back answers, by the numbers of places.
use Rattle.std.specs.Prelude.{ℕ, ◌≡◌, false, List, [], ◌∷◌}
use Rattle.machine.specs.Place.{Place, place}
use Rattle.meaning.specs.Map.{Map, known}
use Rattle.meaning.specs.Step.{Step, Act, all_known, step_marks, act_marks}
use Rattle.chains.specs.Chain.{Among, writes, reads, Way}
use Rattle.place_marks.specs.Word.{map_in}
use Rattle.sources.specs.declared.Source.{Source}
use Rattle.sources.specs.declared.Source.TheVariants.{Kept, From}

-- the step does not write place q, or reads p for it, which is unknown
abbrev pub Traced : Step → Map → ℕ → Source → Type 0
Traced x μ q Kept = writes x (place q) ≡ false
Traced x μ q (From p) = Among (place p) (reads x (place q)) × (known μ (place p) ≡ false)

-- where q is unknown after the step, whatever the window's marks are
abbrev pub Tracing : Step → ℕ → ℕ → Source → Type 0
Tracing x m q r = (w : List ℕ) → known (step_marks x (map_in m w)) (place q) ≡ false → Traced x (map_in m w) q r

-- p is an unknown one of some places, if any of them is unknown
abbrev pub Picks : ℕ → List Place → ℕ → Type 0
Picks m ps p = (w : List ℕ) → all_known (map_in m w) ps ≡ false → Among (place p) ps × (known (map_in m w) (place p) ≡ false)

-- a way of one link at most through the act of a word, of whatever index
abbrev pub Led : Act → Map → ℕ → Source → Type 0
Led a μ q Kept = (i : ℕ) → Way i a μ (place q) [] (place q)
Led a μ q (From p) = (i : ℕ) → Way i a μ (place p) (record { index = i; place = place q } ∷ []) (place q)

-- where q is unknown after the word, whatever the window's marks are
abbrev pub Leading : Act → ℕ → ℕ → Source → Type 0
Leading a m q r = (w : List ℕ) → known (act_marks a (map_in m w)) (place q) ≡ false → Led a (map_in m w) q r
