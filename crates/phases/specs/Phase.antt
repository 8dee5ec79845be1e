-- What the parts of a phase do. None of this is promised: the laws (proofs/Phases.antt) say that phases give what rounds give.
use Rattle.std.specs.Prelude.{ℕ, zero, suc, ◌+◌, ◌-◌, ◌^◌, ◌<◌, ◌≤◌, min, ◌≡◌, cond, List, ltb, length, get_or, set}

-- words for a routine that has some: none where it has its most
unfoldable pub extra : ℕ → ℕ → ℕ → ℕ
extra words has most = cond (ltb has most) words 0

-- so many words more for each of the first n that has room
unfoldable pub raised : ℕ → (ℕ → ℕ) → ℕ → List ℕ → List ℕ
raised words most zero grants = grants
raised words most (suc n) grants =
    let g = raised words most n grants in
    set g n (get_or g n 0 + extra words (get_or g n 0) (most n))

-- how many of the first n have room
unfoldable pub roomy : (ℕ → ℕ) → ℕ → List ℕ → ℕ
roomy most zero grants = 0
roomy most (suc n) grants = roomy most n grants + extra 1 (get_or grants n 0) (most n)

-- the smaller of so many words and a routine's room, if it has room
unfoldable pub narrowed : ℕ → ℕ → ℕ → ℕ
narrowed words has most = cond (ltb has most) (min words (most - has)) words

-- the least room of those of the first n that have room
unfoldable pub least_room : (ℕ → ℕ) → ℕ → List ℕ → ℕ
least_room most zero grants = 2 ^ 32 - 1
least_room most (suc n) grants = narrowed (least_room most n grants) (get_or grants n 0) (most n)

-- so many words fit in each room
abbrev pub Fitting : ℕ → (ℕ → ℕ) → List ℕ → Type 0
Fitting words most grants = (i : ℕ) → i < length grants → get_or grants i 0 < most i → get_or grants i 0 + words ≤ most i

-- limits, words left and grants of at most eight routines
pub record Sized (limits left grants : List ℕ) : Type 0 where
  pub limited : length limits ≡ length grants
  pub covered : length left ≡ length grants
  pub few : length grants ≤ 8
