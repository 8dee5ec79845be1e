-- A sum's stages. Assumes nothing.
use Rattle.std.specs.Prelude.{ℕ, ◌*◌, ◌/◌, ◌%◌, ◌^◌, ◌<◌, ◌≡◌, Bool, cond, eqb}
use Rattle.std.specs.Float.{Format}
use Rattle.rounding.specs.declared.rounding.Rounding.{Rounding}
use Rattle.packing.specs.Pack.{IsSettled}
use Rattle.operators.specs.Operators.{zero_sign, sum_size, sum_sign}
use Rattle.digits.specs.Digits.{sticky}

-- b and 7 digits of 0 below it, moved d places down, and a sticky digit for what falls off
pub record IsAligned (b d high left : ℕ) : Type 0 where
  pub high_is : high ≡ b * 128 / 2 ^ d
  pub left_is : left ≡ sticky (b * 128 % 2 ^ d)

-- m * 2 ^ e / 2 ^ 2209 settles as the sum of ±a / 2 ^ 1126 and ±b / 2 ^ 1126 does, and n is its sign; opposite numbers make 0, of the mode's sign
pub record IsSum (s : Bool) (a : ℕ) (t : Bool) (b : ℕ) (n : Bool) (m e : ℕ) : Type 0 where
  pub sign : (mode : Rounding) → sum_sign mode s a t b ≡ cond (eqb m 0) (zero_sign mode) n
  pub same : (mode : Rounding) (f : Format) (σ : Bool) (bits : ℕ) (x o i : Bool) → IsSettled mode f σ (m * 2 ^ e) (2 ^ 2209) bits x o i → IsSettled mode f σ (sum_size s a t b) (2 ^ 1126) bits x o i
  pub below : m < 2 ^ 62
  pub range : e < 4500
