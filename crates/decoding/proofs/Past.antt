-- What the last arm of a match on a number tells.
use Prim.Native.Nat.{ℕ, zero, suc, ◌≤◌}
use mathlib.Core.Path.{◌≡◌}
use native.Mathlib.Omega.{arith}

-- n is none of the numbers below k
abbrev pub Past : ℕ → ℕ → Type 0
Past n zero = Unit
Past n (suc k) = Past n k × (n ≡ k → ⊥)

next : (n k : ℕ) → k ≤ n → (n ≡ k → ⊥) → suc k ≤ n
next n k h e = omega arith

pub past : (n k : ℕ) → Past n k → k ≤ n
past n zero p = omega arith
past n (suc k) p = next n k (past n k p.0) p.1
