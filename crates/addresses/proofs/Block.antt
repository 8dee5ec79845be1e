-- The words of a contiguous transfer, by their index.
use mathlib.Core.Path.{◌≡◌}
use Prim.Native.Nat.{ℕ, ◌+◌, ◌*◌, ◌%◌, ◌^◌, ◌<◌}
use native.Mathlib.Omega.{arith}
use Rattle.registers.specs.Registers.{single_index}
use Rattle.machine.specs.Window.{word_at}

pub word_bound : (base a : ℕ) → word_at base a < 2 ^ 30
unfolding word_at
word_bound base a = omega arith

-- the word of the i-th address is i words on, where their numbers do not go on at 0
pub word_on : (base a i : ℕ) → word_at base a + i < 2 ^ 30 → word_at base ((a + 4 * i) % 2 ^ 32) ≡ word_at base a + i
unfolding word_at
word_on base a i h = omega arith

pub single_on : (n i : ℕ) → n + i < 32 → single_index (n + i) ≡ n + i
single_on n i h = omega arith
