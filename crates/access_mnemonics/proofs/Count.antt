-- A transfer moves at least one register.
use Prim.Native.Nat.{ℕ, ◌≤◌, max}
use mathlib.Core.Bool.{Bool, true, false, cond}
use native.Mathlib.Nat.{le-max_right}
use native.Mathlib.Omega.{arith}
use lib.Ieee.{Format}
use Rattle.addresses.specs.Address.{one_only, several, count_of}

at_least : (b : Bool) (n : ℕ) → 1 ≤ cond b 1 (max n 1)
at_least true n = omega arith
at_least false n = le-max_right n 1

pub count_positive : (f : Format) (w : ℕ) → 1 ≤ count_of f w
count_positive f w = at_least (one_only w) (several f w)
