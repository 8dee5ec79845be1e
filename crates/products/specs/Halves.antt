-- A product in two parts. Assumes nothing.
use Rattle.std.specs.Prelude.{ℕ, ◌+◌, ◌*◌, ◌^◌, ◌<◌, ◌≡◌}

-- of a number of 106 digits the leading 61, and the others
pub record Halves (p high low : ℕ) : Type 0 where
  pub sum : high * 2 ^ 45 + low ≡ p
  pub small : low < 2 ^ 45
  pub fits : high < 2 ^ 61
