-- The move up by the leading zeros. Assumes nothing.
use mathlib.Core.Path.{◌≡◌, sym, ap, ◌∙◌, subst}
use Prim.Native.Nat.{ℕ, suc, ◌+◌, ◌-◌, ◌*◌, ◌%◌, ◌^◌, ◌≤◌, ◌<◌}
use native.Mathlib.Nat.{mod-eq_of_lt, lt_of_lt_of_le, lt_of_le_of_lt, le_trans, le_of_eq, mul-le-mul_right, le_of_suc-le-suc, lt_of_not-le, not-le_of_lt}
use native.Mathlib.Omega.{arith}
use lib.Dec.{lit≤}
use lib.Pow.{pow-add, pow_mono, shl_lt}
use lib.Count.{count_leading_zeros, leading_top}
use Rattle.rounding.specs.Lift.{Lifted}

place_le : (j : ℕ) → 2 ^ j < 2 ^ 53 → j ≤ 52
place_le j h = le_of_suc-le-suc (lt_of_not-le (λ (g : 53 ≤ j). not-le_of_lt h (pow_mono g)))

moved : (z j : ℕ) → z + suc j ≡ 64 → j ≤ 52 → j + (z - 11) ≡ 52
moved z j e h = omega arith

few : (z j : ℕ) → z + suc j ≡ 64 → j ≤ 52 → z - 11 ≤ 52
few z j e h = omega arith

enough : (z j : ℕ) → z + suc j ≡ 64 → j ≤ 52 → 11 ≤ z
enough z j e h = omega arith

one_more : (j r : ℕ) → j + r ≡ 52 → suc j + r ≡ 53
one_more j r e = omega arith

pub zeros_enough : (t : ℕ) → 0 < t → t < 2 ^ 53 → 11 ≤ count_leading_zeros 64 t
zeros_enough t p h =
    let l = leading_top 64 t p (lt_of_lt_of_le h (lit≤ tt)) in
    enough (count_leading_zeros 64 t) l.0 l.1 (place_le l.0 (lt_of_le_of_lt l.2 h))

pub lifted : (t : ℕ) → 0 < t → t < 2 ^ 53 → Lifted t (count_leading_zeros 64 t - 11)
lifted t p h =
    let l = leading_top 64 t p (lt_of_lt_of_le h (lit≤ tt)) in
    let j = l.0 in
    let r = count_leading_zeros 64 t - 11 in
    let j_le : j ≤ 52 = place_le j (lt_of_le_of_lt l.2 h) in
    let e : j + r ≡ 52 = moved (count_leading_zeros 64 t) j l.1 j_le in
    record {
      most = few (count_leading_zeros 64 t) j l.1 j_le;
      least = le_trans (le_of_eq (ap (λ (x : ℕ). 2 ^ x) (sym e) ∙ pow-add 2 j r)) (mul-le-mul_right (2 ^ r) l.2);
      below = subst (λ (x : ℕ). t * 2 ^ r < 2 ^ x) (one_more j r e) (shl_lt (suc j) r l.3);
    }

-- nothing is lost at the top
pub moved_is : (n r : ℕ) → Lifted n r → n * 2 ^ r % 2 ^ 64 ≡ n * 2 ^ r
moved_is n r l = mod-eq_of_lt (lt_of_lt_of_le l.below (lit≤ tt))
