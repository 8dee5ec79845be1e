-- The answers to which place a line names next, told apart.
use Prim.Native.Nat.{ℕ}
use native.Mathlib.Omega.{arith}
use mathlib.Core.Path.{◌≡◌}
use Rattle.listing.specs.Next.{Place, End, Mistake}

-- no place is named
pub end_none : (p n : ℕ) → End ≡ Place p n → ⊥
end_none p n e = let z : ◌≡◌ {A = ℕ} 0 1 = cc in omega arith

pub mistake_none : (p n : ℕ) → Mistake ≡ Place p n → ⊥
mistake_none p n e = let z : ◌≡◌ {A = ℕ} 0 1 = cc in omega arith

-- the place is named at its end
pub place_from : (q p m n : ℕ) → Place q m ≡ Place p n → m ≡ n
place_from q p m n e = cc
