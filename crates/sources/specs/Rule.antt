-- What a step writes and reads.
use Rattle.std.specs.Prelude.{ℕ, ◌+◌, ◌-◌, ◌≤◌, ◌<◌, ◌≡◌, true, false, ◌⊎◌, List, [], ◌∷◌}
use Rattle.machine.specs.Place.{Place, exceptions, place, number}
use Rattle.meaning.specs.Step.{Step}
use Rattle.chains.specs.Chain.{writes, reads}

-- neither of so many places from the first on
abbrev pub Outside : ℕ → ℕ → ℕ → Type 0
Outside first words q = (q < first) ⊎ (first + words ≤ q)

-- a number operation: so many places from the first on are read from s, the cumulative exception bits from themselves and t, and nothing else is written
pub record Rule (x : Step) (first words : ℕ) (s t : List Place) : Type 0 where
  pub target : (q : ℕ) → first ≤ q → q < first + words → (writes x (place q) ≡ true) × (reads x (place q) ≡ s)
  pub raised : (writes x exceptions ≡ true) × (reads x exceptions ≡ exceptions ∷ t)
  pub other : (q : ℕ) → Outside first words q → (q ≡ number exceptions → ⊥) → writes x (place q) ≡ false

-- a copy: each of so many places from the first on from one place, and nothing else is written
pub record Copying (x : Step) (first words from : ℕ) : Type 0 where
  pub target : (q : ℕ) → first ≤ q → q < first + words → (writes x (place q) ≡ true) × (reads x (place q) ≡ place (from + (q - first)) ∷ [])
  pub other : (q : ℕ) → Outside first words q → writes x (place q) ≡ false
