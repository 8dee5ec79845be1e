-- Where the halves of a double stand.
use mathlib.Core.Path.{◌≡◌}
use Prim.Native.Nat.{ℕ, ◌+◌, ◌*◌, ◌%◌}
use native.Mathlib.Omega.{arith}
use Rattle.registers.specs.Registers.{low_index, high_index}

-- the words of a double, by the half of the index
pub low_index_lem : (n : ℕ) → n % 16 * 2 ≡ low_index n
low_index_lem n = omega arith

pub high_index_lem : (n : ℕ) → n % 16 * 2 + 1 ≡ high_index n
high_index_lem n = omega arith
