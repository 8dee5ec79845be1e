-- A quotient with its remainder. Assumes nothing.
use Rattle.std.specs.Prelude.{ℕ, ◌+◌, ◌*◌, ◌<◌, ◌≡◌}

pub record IsDivided (x d q r : ℕ) : Type 0 where
  pub sum : q * d + r ≡ x
  pub small : r < d
