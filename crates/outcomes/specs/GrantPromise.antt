-- What the exported grant promises.
use Rattle.std.specs.Prelude.{ℕ, ◌≡◌, List}
use Rattle.grants.specs.Grant.{Reply, answered}
use Rattle.grants.specs.Promise.{Promise}
use Rattle.outcomes.specs.Grant.{GrantOutcome, reported_grant}

-- of its outcome x: a period, and the shares, limits, words left and grants at entry
pub record GrantPromise (period : ℕ) (shares limits left grants : List ℕ) (x : GrantOutcome) : Type 0 where
  -- it is what the definition leaves, 255 and refusals included
  pub leaves : x ≡ reported_grant (answered period shares limits left grants)
  -- and the reply that it reports keeps what is promised of a period's grants
  pub reply : Reply
  pub reports : x ≡ reported_grant reply
  pub promise : Promise period shares limits left grants reply
