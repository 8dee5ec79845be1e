-- What routines are granted of a period.
use Rattle.std.specs.Prelude.{ℕ, Bool, cond, ◌&&◌, List, eqb, length, replicate}
use Rattle.phases.specs.Share.{shared}
use Rattle.phases.specs.Round.{most, rounds}
use Rattle.grants.specs.Refusal.{refusal_of}

-- the shares first, then what remains, round by round: a round in which nobody gets a word changes nothing, so as many rounds as the period has words are enough
unfoldable pub grants_of : ℕ → List ℕ → List ℕ → List ℕ → List ℕ
grants_of period shares limits left = rounds period (most limits left) period (shared shares left)

-- a refusal, or 0, and the grants
pub record Reply : Type 0 where
  pub refusal : ℕ
  pub grants : List ℕ

abbrev pub reply : ℕ → List ℕ → Reply
reply n grants = record { refusal = n; grants = grants }

-- under a refusal every grant is 0
unfoldable pub granted : ℕ → List ℕ → List ℕ → List ℕ → Reply
granted period shares limits left =
    let n = refusal_of period shares limits in
    reply n (cond (eqb n 0) (grants_of period shares limits left) (replicate (length shares) 0))

-- the answer where the lists of shares, limits, words left and grants are not of one length: it is tested first, and the grants stay as they came
abbrev pub unequal : ℕ
unequal = 255

unfoldable pub equal_lengths : List ℕ → List ℕ → List ℕ → List ℕ → Bool
equal_lengths shares limits left grants =
    eqb (length shares) (length grants) && (eqb (length limits) (length grants) && eqb (length left) (length grants))

unfoldable pub answered : ℕ → List ℕ → List ℕ → List ℕ → List ℕ → Reply
answered period shares limits left grants =
    cond (equal_lengths shares limits left grants) (granted period shares limits left) (reply unequal grants)
