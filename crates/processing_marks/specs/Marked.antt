-- What is done to a word of marks.
use Rattle.std.specs.Prelude.{ℕ, ◌≡◌, Bool, true, ◌&&◌, List, [], ◌∷◌}
use Rattle.std.specs.Float.{Format}
use Rattle.machine.specs.declared.Machine.{Machine}
use Rattle.machine.specs.Machine.{with_fpscr}
use Rattle.machine.specs.Place.{state, exceptions}
use Rattle.meaning.specs.Map.{Map, known, mark}
use Rattle.meaning.specs.Step.{Step, step_marks, after_marks}
use Rattle.meaning.specs.Tree.{Tree}
use Rattle.meaning.specs.Hang.{marked}
use Rattle.place_marks.specs.Word.{map_in}
use Rattle.register_marks.specs.Register.{known_in, copy_in}

-- m' has the marks of m after a step, and after the first n of a family
abbrev pub MarksStepped : Step → ℕ → ℕ → Type 0
MarksStepped x m m' = (w : List ℕ) → map_in m' w ≡ step_marks x (map_in m w)

abbrev pub MarksIterated : ℕ → (ℕ → Step) → ℕ → ℕ → Type 0
MarksIterated n each m m' = (w : List ℕ) → map_in m' w ≡ after_marks n each (map_in m w)

-- the marks after a word with the tree t, FPSCR being as given
abbrev pub Marked : (Bool → Tree) → ℕ → ℕ → ℕ → Type 0
Marked t fpscr m m' = (thumb : Bool) (q : Machine) (v w : List ℕ) → map_in m' w ≡ marked (t thumb) (state (with_fpscr q fpscr) v) (map_in m w)

-- a step of two registers that copies the marks of the second to the first, word by word
abbrev pub Copies : Format → (ℕ → ℕ → Step) → Type 0
Copies f one = (d m : ℕ) (μ : Map) → step_marks (one d m) μ ≡ copy_in f μ d m

-- whether all of some registers are known
abbrev pub all_in : Format → Map → List ℕ → Bool
all_in f μ [] = true
all_in f μ (n ∷ ns) = all_in f μ ns && known_in f μ n

-- after a number operation the cumulative exception bits are known where they were and all that is read for them is
abbrev pub mark_raised : Map → Bool → Map
mark_raised μ all = mark μ exceptions (all && known μ exceptions)
