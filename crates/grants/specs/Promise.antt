-- What is promised of a period's grants.
use Rattle.std.specs.Prelude.{ℕ, ◌<◌, ◌≤◌, ◌≡◌, true, List, length, get_or, replicate}
use Rattle.phases.specs.Round.{sum, most}
use Rattle.grants.specs.Grant.{Reply, answered, equal_lengths}

-- the grants of lists of one length
pub record Bounds (period : ℕ) (shares limits left : List ℕ) (y : Reply) : Type 0 where
  -- nobody gets more than the limit, nor more than the words left
  pub limited : (i : ℕ) → get_or y.grants i 0 ≤ get_or limits i 0
  pub covered : (i : ℕ) → get_or y.grants i 0 ≤ get_or left i 0
  -- the grants never exceed the period
  pub fitting : sum y.grants ≤ period
  -- part of it stays unused only if no routine could take another word
  pub used : y.refusal ≡ 0 → sum y.grants < period → (i : ℕ) → get_or y.grants i 0 ≡ most limits left i
  -- under a refusal every grant is 0
  pub refused : (y.refusal ≡ 0 → ⊥) → y.grants ≡ replicate (length shares) 0

-- of an answer to lists, with the grants that were lent
pub record Promise (period : ℕ) (shares limits left grants : List ℕ) (y : Reply) : Type 0 where
  pub answers : y ≡ answered period shares limits left grants
  pub bounds : equal_lengths shares limits left grants ≡ true → Bounds period shares limits left y
