-- What holds of every chain, and that there is one for every unknown place.
use Rattle.std.specs.Prelude.{ℕ, ◌*◌, ◌≤◌, ◌<◌, ◌≡◌, false, List, [], ◌∷◌, length}
use Rattle.machine.specs.Place.{Place, single, core, word, flags, control, exc, nzcv, exceptions, State}
use Rattle.meaning.specs.Map.{Map, known}
use Rattle.meaning.specs.Step.{Step, Act}
use Rattle.meaning.specs.Tree.{Tree, stop, go, branch, ask}
use Rattle.meaning.specs.Run.{watch}
use Rattle.chains.specs.Steps.{events_at, steps_of}
use Rattle.chains.specs.Chain.{Pair, Among, reads, Through, Chain}

-- a map of as many marks before the window as there are places
pub record Mapped (μ : Map) : Type 0 where
  pub s : length μ.marks.s ≡ 32
  pub r : length μ.marks.r ≡ 16

-- a register is one that the machine has
abbrev pub Present : Place → Type 0
Present (single n) = n < 32
Present (core n) = n < 16
Present (word n) = Unit {0}
Present flags = Unit {0}
Present control = Unit {0}
Present exc = Unit {0}
Present nzcv = Unit {0}
Present exceptions = Unit {0}

-- every step reads places that are there
abbrev pub ReadsPresent : Step → Type 0
ReadsPresent x = (p q : Place) → Among p (reads x q) → Present p

-- what is said of every act of a tree, whatever the places hold that it asks for
abbrev pub EveryAct : (Act → Type 0) → Tree → Type 0
EveryAct P (stop s) = Unit {0}
EveryAct P (go a) = P a
EveryAct P (branch a) = P a
EveryAct P (ask p k) = (v : ℕ) → EveryAct P (k v)

pub record Sound (a : Act) : Type 0 where
  pub each : (i : ℕ) → ReadsPresent (a.each i)
  pub tail : ReadsPresent a.tail

-- no way through an act has more than n links
abbrev pub Within : ℕ → Act → Type 0
Within n a = (i : ℕ) (μ : Map) (p q : Place) (ps : List Pair) → Through (events_at i (steps_of a) []) μ p ps q → length ps ≤ n

-- indices never fall, from n on, and are below c
abbrev pub Rising : ℕ → ℕ → List Pair → Type 0
Rising n c [] = Unit {0}
Rising n c (x ∷ ps) = (n ≤ x.index) × (x.index < c) × Rising x.index c ps

-- a chain to q
pub record Origin (M : ℕ → Tree) (ws : List ℕ) (st : State) (μ : Map) (q : Place) : Type 0 where
  pub first : Place
  pub pairs : List Pair
  pub chain : Chain M ws st μ first pairs q

-- There is one for every place that is unknown after the run,
abbrev pub Existence : Type 0
Existence =
    (M : ℕ → Tree) → ((w : ℕ) → EveryAct Sound (M w)) → (ws : List ℕ) (st : State) (μ : Map) → Mapped μ → (q : Place) → Present q
    → known (watch M ws 0 st μ).map q ≡ false → Origin M ws st μ q

-- and for no other.
abbrev pub Unknown : Type 0
Unknown =
    (M : ℕ → Tree) (ws : List ℕ) (st : State) (μ : Map) (first q : Place) (ps : List Pair) → Chain M ws st μ first ps q
    → known (watch M ws 0 st μ).map q ≡ false

-- Its indices are of words run, and never fall.
abbrev pub Order : Type 0
Order =
    (M : ℕ → Tree) (ws : List ℕ) (st : State) (μ : Map) (first q : Place) (ps : List Pair) → Chain M ws st μ first ps q
    → Rising 0 (watch M ws 0 st μ).count ps

-- It has at most n pairs for each word run, where no way through one word's act has more links.
abbrev pub Bound : Type 0
Bound =
    (M : ℕ → Tree) (n : ℕ) → ((w : ℕ) → EveryAct (Within n) (M w)) → (ws : List ℕ) (st : State) (μ : Map) (first q : Place) (ps : List Pair)
    → Chain M ws st μ first ps q → length ps ≤ n * (watch M ws 0 st μ).count
