-- What a reader believes at sight: a root's square is next to its number. Assumes nothing.
use mathlib.Core.Path.{◌≡◌, refl, sym, ap, ◌∙◌, subst}
use mathlib.Core.Logic.{◌⊎◌, inl, inr}
use Prim.Native.Nat.{ℕ, zero, suc, ◌+◌, ◌-◌, ◌*◌, ◌/◌, ◌%◌, ◌≤◌, ◌<◌, zero-le, compare, Ordering}
use native.Mathlib.Nat.{le_trans, le_of_eq, le_of_lt, lt_of_lt_of_le, mul-le-mul_right, div-mul-le_self, div-lt_iff_lt-mul, zero-mul}
use native.Mathlib.Omega.{arith}
use lib.Ieee.{nearest}
use Rattle.roots.specs.Root.{isqrt, root_cut, NearRoot}
use Rattle.rounding.specs.declared.rounding.Rounding.TheVariants.{Nearest}
use Rattle.rounding.proofs.Order.{Cmp, cmp}
use Rattle.rounding.proofs.Sight.{parity, even}
use Rattle.roots.proofs.Squares.{is_Root}

twice_less : (p : ℕ) → 2 * suc p - 1 ≡ 2 * p + 1
twice_less p = omega arith

-- n lies between the squares of q and q + 1, in units of u
module _ (n u q : ℕ) (U : 0 < u) (least : q * q * u ≤ n) (most : n < suc q * suc q * u) where
  top_square : n < q * q * u + 2 * (q * u) + u
  top_square = lt_of_lt_of_le most (le_of_eq (square q u))
    where
      square : (q u : ℕ) → suc q * suc q * u ≡ q * q * u + 2 * (q * u) + u
      square q u = omega arith

  -- the square of q less a half is no more than that of q
  lower : (q : ℕ) → q * q * u ≤ n → (2 * q - 1) * (2 * q - 1) * u ≤ 4 * n
  lower zero h = le_trans (le_of_eq (zero_of u)) (zero-le)
    where
      zero_of : (u : ℕ) → (2 * 0 - 1) * (2 * 0 - 1) * u ≡ 0
      zero_of u = zero-mul u
  lower (suc p) h = subst (λ (x : ℕ). x * x * u ≤ 4 * n) (sym (twice_less p)) (go p h)
    where
      go : (p : ℕ) → suc p * suc p * u ≤ n → (2 * p + 1) * (2 * p + 1) * u ≤ 4 * n
      go p h = omega arith

  no_lower : (q : ℕ) → q * q * u ≤ n → (4 * n ≡ (2 * q - 1) * (2 * q - 1) * u) → (q ≡ 0) ⊎ (q % 2 ≡ 0)
  no_lower zero h e = inl refl
  no_lower (suc p) h e = absurd (go p h (e ∙ ap (λ (x : ℕ). x * x * u) (twice_less p)))
    where
      go : (p : ℕ) → suc p * suc p * u ≤ n → 4 * n ≡ (2 * p + 1) * (2 * p + 1) * u → ⊥
      go p h e = omega arith

  root_tie : (z : ℕ) → z < 2 → (q + z) % 2 ≡ 0 → 4 * n ≡ (2 * q + 1) * (2 * q + 1) * u → NearRoot n u (q + z)
  root_tie zero l v e = (lower (q + 0) (omega arith), omega arith, (λ (x : 4 * n ≡ (2 * (q + 0) + 1) * (2 * (q + 0) + 1) * u). v), λ (x : 4 * n ≡ (2 * (q + 0) - 1) * (2 * (q + 0) - 1) * u). inr v)
  root_tie (suc zero) l v e = (
    subst (λ (x : ℕ). x * x * u ≤ 4 * n) (sym (odd_of q)) (le_of_eq (sym e)),
    omega arith,
    (λ (x : 4 * n ≡ (2 * (q + 1) + 1) * (2 * (q + 1) + 1) * u). v),
    (λ (x : 4 * n ≡ (2 * (q + 1) - 1) * (2 * (q + 1) - 1) * u). inr v),
  )
    where
      odd_of : (q : ℕ) → 2 * (q + 1) - 1 ≡ 2 * q + 1
      odd_of q = omega arith
  root_tie (suc (suc z)) l v e = absurd (none z l)
    where
      none : (z : ℕ) → suc (suc z) < 2 → ⊥
      none z l = omega arith

  near_root : (o : Ordering) → Cmp o (4 * n) ((2 * q + 1) * (2 * q + 1) * u) → NearRoot n u (nearest q o)
  near_root Ordering.lt h = (lower q least, le_of_lt h, (λ (x : 4 * n ≡ (2 * q + 1) * (2 * q + 1) * u). absurd (less (4 * n) _ h x)), no_lower q least)
    where
      less : (a b : ℕ) → a < b → a ≡ b → ⊥
      less a b l e = omega arith
  near_root Ordering.eq h = root_tie (q % 2) (parity q) (even q) h
  near_root Ordering.gt h = (
    subst (λ (x : ℕ). x * x * u ≤ 4 * n) (sym (twice_less q)) (le_of_lt h),
    (let g = top_square in omega arith),
    (λ (x : 4 * n ≡ (2 * suc q + 1) * (2 * suc q + 1) * u). let g = top_square in omega arith),
    (λ (x : 4 * n ≡ (2 * suc q - 1) * (2 * suc q - 1) * u). absurd (more (4 * n) _ h (x ∙ ap (λ (y : ℕ). y * y * u) (twice_less q)))),
  )
    where
      more : (a b : ℕ) → b < a → a ≡ b → ⊥
      more a b l e = omega arith

-- the rounded root of n / u is next to its root
pub root_near : (n u : ℕ) → 0 < u → NearRoot n u (root_cut Nearest n u)
root_near n u U =
    let q = isqrt (n / u) in
    near_root n u q U (le_trans (mul-le-mul_right u (is_Root (n / u)).0) (div-mul-le_self n u)) ((div-lt_iff_lt-mul U).0 (is_Root (n / u)).1)
    (compare (4 * n) ((2 * q + 1) * (2 * q + 1) * u)) (cmp (4 * n) ((2 * q + 1) * (2 * q + 1) * u))
