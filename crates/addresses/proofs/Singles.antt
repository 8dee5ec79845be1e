-- The two words of a double are singles.
use mathlib.Core.Path.{◌≡◌}
use Prim.Native.Nat.{ℕ}
use native.Mathlib.Omega.{arith}
use Rattle.registers.specs.Registers.{single_index, low_index, high_index}

-- a word's index is within the singles
pub low_single : (d : ℕ) → single_index (low_index d) ≡ low_index d
low_single d = omega arith

pub high_single : (d : ℕ) → single_index (high_index d) ≡ high_index d
high_single d = omega arith
