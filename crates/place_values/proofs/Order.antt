-- The first number that passes a test, one after the other.
use Prim.Native.Nat.{ℕ, suc, ◌+◌, ◌-◌, ◌≤◌, ◌<◌}
use native.Mathlib.Omega.{arith}
use native.Mathlib.Numerals.{add-one}
use mathlib.Core.Path.{◌≡◌, sym, ◌∙◌, ap}
use mathlib.Core.Bool.{Bool, true, false}
use Rattle.place_values.specs.Place.{first_from}

module _ (f : ℕ → Bool) (p e : ℕ) where
  pub first_end : e ≤ p → p ≡ first_from f (e - p) p
  unfolding first_from
  first_end h = let z : e - p ≡ 0 = omega arith in rw z

  module _ (h : p < e) where
    more : e - p ≡ suc (e - (p + 1))
    more = omega arith

    pub first_here : f p ≡ true → p ≡ first_from f (e - p) p
    unfolding first_from
    first_here q = rw (more, q)

    pub first_on : f p ≡ false → first_from f (e - (p + 1)) (p + 1) ≡ first_from f (e - p) p
    unfolding first_from
    first_on q = sym (ap (λ (n : ℕ). first_from f n p) more ∙ rw (q, add-one p))
