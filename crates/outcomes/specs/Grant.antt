-- The outcome of the exported grant: its result, and the grants that were lent.
use Rattle.std.specs.Prelude.{ℕ, List}
use Rattle.grants.specs.Grant.{Reply}
use Rattle.outcomes.specs.Outcome.{result_of}

pub record GrantOutcome : Type 0 where
  pub result : ℕ
  pub grants : List ℕ

abbrev pub grant_outcome : ℕ → List ℕ → GrantOutcome
grant_outcome r g = record { result = r; grants = g }

-- 0, 255 where the lists are not of one length, 100 + n for refusal n
abbrev pub reported_grant : Reply → GrantOutcome
reported_grant y = grant_outcome (result_of y.refusal) y.grants
