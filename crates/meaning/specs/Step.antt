-- What a word does to the places: writes, steps and acts, and the marks that they leave.
use Rattle.std.specs.Prelude.{ℕ, zero, suc, ◌+◌, ◌%◌, ◌^◌, Bool, true, ◌&&◌, List, [], ◌∷◌}
use Rattle.machine.specs.Place.{Place, State, get, put}
use Rattle.meaning.specs.Map.{Map, known, mark}

-- one place, from what its sources hold
pub record Write : Type 0 where
  pub target : Place
  pub sources : List Place
  pub value : List ℕ → ℕ

-- writes at once: all sources are read before any target is written, and of equal targets the later wins
abbrev pub Step : Type 0
Step = List Write

-- so many steps in turn, of a family, each reading what earlier ones wrote, and one more at the end
pub record Act : Type 0 where
  pub count : ℕ
  pub each : ℕ → Step
  pub tail : Step

abbrev pub gets : State → List Place → List ℕ
gets st [] = []
gets st (p ∷ ps) = get st p ∷ gets st ps

-- what a write stores, read from a
abbrev pub stored : State → Write → ℕ
stored a w = w.value (gets a w.sources)

-- writes of values that are read from a
abbrev pub put_all : State → Step → State → State
put_all a [] st = st
put_all a (w ∷ ws) st = put_all a ws (put st w.target (stored a w))

abbrev pub step : Step → State → State
step x st = put_all st x st

-- the first n steps of a family
unfoldable pub after : ℕ → (ℕ → Step) → State → State
after zero each st = st
after (suc n) each st = step (each n) (after n each st)

abbrev pub act : Act → State → State
act x st = step x.tail (after x.count x.each st)

-- the marks: a target is known just when all its own sources are
abbrev pub all_known : Map → List Place → Bool
all_known μ [] = true
all_known μ (p ∷ ps) = all_known μ ps && known μ p

abbrev pub mark_all : Map → Step → Map → Map
mark_all ν [] μ = μ
mark_all ν (w ∷ ws) μ = mark_all ν ws (mark μ w.target (all_known ν w.sources))

abbrev pub step_marks : Step → Map → Map
step_marks x μ = mark_all μ x μ

unfoldable pub after_marks : ℕ → (ℕ → Step) → Map → Map
after_marks zero each μ = μ
after_marks (suc n) each μ = step_marks (each n) (after_marks n each μ)

abbrev pub act_marks : Act → Map → Map
act_marks x μ = step_marks x.tail (after_marks x.count x.each μ)

-- the first and the second of a write's sources
abbrev pub fst : List ℕ → ℕ
fst [] = 0
fst (x ∷ xs) = x

abbrev pub rest : List ℕ → List ℕ
rest [] = []
rest (x ∷ xs) = xs

abbrev pub snd : List ℕ → ℕ
snd vs = fst (rest vs)

-- p takes what q holds
abbrev pub copy : Place → Place → Write
copy p q = record { target = p; sources = q ∷ []; value = fst }

-- p takes a constant
abbrev pub constant : Place → ℕ → Write
constant p v = record { target = p; sources = []; value = λ vs. v }

-- p grows by k modulo 2 ^ 32; its mark stays, since it is its own only source
abbrev pub grow : Place → ℕ → Write
grow p k = record { target = p; sources = p ∷ []; value = λ vs. (fst vs + k) % 2 ^ 32 }

-- an act of one step, and of none
abbrev pub once : Step → Act
once x = record { count = 1; each = λ i. x; tail = [] }

abbrev pub nothing : Act
nothing = record { count = 0; each = λ i. []; tail = [] }
