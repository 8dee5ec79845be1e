-- FPSCR with other flags has the same cumulative exception bits.
use Prim.Native.Nat.{ℕ, ◌+◌, ◌*◌, ◌%◌, ◌^◌}
use native.Mathlib.Omega.{arith}
use mathlib.Core.Path.{◌≡◌}

pub same_exceptions : (flags fpscr : ℕ) → (flags * 2 ^ 28 + fpscr % 2 ^ 28) % 2 ^ 5 ≡ fpscr % 2 ^ 5
same_exceptions flags fpscr = omega arith
