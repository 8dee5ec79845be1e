-- The last arm of the conditions' match.
use mathlib.Core.Path.{◌≡◌, refl, sym}
use mathlib.Core.Bool.{Bool, true, false, not, ◌&&◌}
use Prim.Native.Nat.{ℕ, ◌+◌, ◌≤◌}
use native.Mathlib.Omega.{arith}
use borrow.Author.Tests.{le-leb}
use Rattle.bits.specs.declared.psr.Psr.{Psr}
use Rattle.bits.specs.Psr.{holds}
use mathlib.Core.Bool.{true≢false}

-- a number that is at least n and not n is past n
pub up : {n k : ℕ} → n ≤ k → (k ≡ n → ⊥) → n + 1 ≤ k
up h ne = omega arith

-- 1110 and 1111 always hold
pub always : (k : ℕ) (p : Psr) → 14 ≤ k → true ≡ holds k p
unfolding holds
always k p h = rw (le-leb _ _ h)

-- LS is the opposite of HI, by the two ways that `||` goes
pub ls_clear : (c z : Bool) → not c ≡ true → not c ≡ not (c && not z)
ls_clear true z h = absurd (true≢false (sym h))
ls_clear false z h = refl

pub ls_set : (c z : Bool) → not c ≡ false → z ≡ not (c && not z)
ls_set true true h = refl
ls_set true false h = refl
ls_set false z h = absurd (true≢false h)
