-- A number moved up to 62 digits, and the last stage after it. Assumes nothing.
use mathlib.Core.Path.{◌≡◌, refl, sym, ap, ◌∙◌, subst}
use mathlib.Core.Bool.{Bool, true, false}
use Prim.Native.Nat.{ℕ, zero, suc, ◌+◌, ◌-◌, ◌*◌, ◌%◌, ◌^◌, ◌≤◌, ◌<◌}
use native.Mathlib.Nat.{le_trans, le_of_eq, lt_of_lt_of_le, lt_of_le_of_lt, mul-le-mul_right, mod-eq_of_lt, mul_assoc, not-le_of_lt, lt_of_not-le}
use native.Mathlib.Decide.{dec_le}
use native.Mathlib.Omega.{arith}
use lib.Count.{count_leading_zeros, leading_top}
use lib.Dec.{lit≤}
use lib.Pow.{pow-add, pow_pos, pow_mono, shl_lt}
use lib.Ieee.{Format, unlike}
use Rattle.digits.specs.Digits.{sticky, IsRaised}
use Rattle.packing.specs.Pack.{IsSettled}
use Rattle.rounding.specs.declared.rounding.Rounding.{Rounding}
use Rattle.packing.proofs.Settle.{settled_same}

place_le : (j : ℕ) → 2 ^ j < 2 ^ 62 → j ≤ 61
place_le j h = go (dec_le j 61)
  where
    go : Dec (j ≤ 61) → j ≤ 61
    go (yes l) = l
    go (no n) = absurd (not-le_of_lt h (pow_mono {i = 62} (lt_of_not-le n)))

pub enough : (t : ℕ) → 0 < t → t < 2 ^ 62 → 2 ≤ count_leading_zeros 64 t
enough t p h =
    let l = leading_top 64 t p (lt_of_lt_of_le h (lit≤ tt)) in
    sums (count_leading_zeros 64 t) l.0 l.1 (place_le l.0 (lt_of_le_of_lt l.2 h))
  where
    sums : (z j : ℕ) → z + suc j ≡ 64 → j ≤ 61 → 2 ≤ z
    sums z j e l = omega arith

pub raises : (t : ℕ) → 0 < t → t < 2 ^ 62 → IsRaised t (count_leading_zeros 64 t - 2)
raises t p h =
    let l = leading_top 64 t p (lt_of_lt_of_le h (lit≤ tt)) in
    let j = l.0 in
    let r = count_leading_zeros 64 t - 2 in
    let j_le : j ≤ 61 = place_le j (lt_of_le_of_lt l.2 h) in
    let e : j + r ≡ 61 = moved (count_leading_zeros 64 t) j l.1 j_le in
    record {
      most = few r j e;
      least = le_trans (le_of_eq (ap (λ (x : ℕ). 2 ^ x) (sym e) ∙ pow-add 2 j r)) (mul-le-mul_right (2 ^ r) l.2);
      below = subst (λ (x : ℕ). t * 2 ^ r < 2 ^ x) (one_more j r e) (shl_lt (suc j) r l.3);
    }
  where
    moved : (z j : ℕ) → z + suc j ≡ 64 → j ≤ 61 → j + (z - 2) ≡ 61
    moved z j e l = omega arith

    few : (r j : ℕ) → j + r ≡ 61 → r ≤ 61
    few r j e = omega arith

    one_more : (j r : ℕ) → j + r ≡ 61 → suc j + r ≡ 62
    one_more j r e = omega arith

pub up_is : (t r : ℕ) → IsRaised t r → t * 2 ^ r % 2 ^ 64 ≡ t * 2 ^ r
up_is t r p = mod-eq_of_lt (lt_of_lt_of_le p.below (lit≤ tt))

pub raised_is : (mode : Rounding) (f : Format) (s : Bool) (m e r bits : ℕ) (x o t : Bool) → IsRaised m r → r ≤ e
    → IsSettled mode f s (m * 2 ^ r % 2 ^ 64 * 2 ^ (e - r)) (2 ^ 2209) bits x o t → IsSettled mode f s (m * 2 ^ e) (2 ^ 2209) bits x o t
raised_is mode f s m e r bits x o t p h q =
    settled_same mode f s (m * 2 ^ r % 2 ^ 64 * 2 ^ (e - r)) (2 ^ 2209) (m * 2 ^ e) (2 ^ 2209) bits x o t (pow_pos 2209) (pow_pos 2209)
    (ap (λ (z : ℕ). z * 2 ^ 2209) (ap (λ (z : ℕ). z * 2 ^ (e - r)) (up_is m r p) ∙ mul_assoc m (2 ^ r) (2 ^ (e - r)) ∙ ap (λ (z : ℕ). m * z) (sym (pow-add 2 r (e - r)) ∙ ap (λ (z : ℕ). 2 ^ z) (back e r h)))) q
  where
    back : (e r : ℕ) → r ≤ e → r + (e - r) ≡ e
    back e r h = omega arith

-- ---- the sticky digit, and the sign

pub sticky_some : (r : ℕ) → (r ≡ 0 → ⊥) → 1 ≡ sticky r
sticky_some zero h = absurd (h refl)
sticky_some (suc r) h = refl

pub sticky-le : (r : ℕ) → sticky r ≤ 1
sticky-le zero = lit≤ tt
sticky-le (suc r) = lit≤ tt

pub raised_lt : (t r : ℕ) → IsRaised t r → t * 2 ^ r % 2 ^ 64 < 2 ^ 62
raised_lt t r p = subst (λ (z : ℕ). z < 2 ^ 62) (sym (up_is t r p)) p.below

pub raised_ge : (t r : ℕ) → IsRaised t r → 2 ^ 61 ≤ t * 2 ^ r % 2 ^ 64
raised_ge t r p = subst (λ (z : ℕ). 2 ^ 61 ≤ z) (sym (up_is t r p)) p.least

pub plain : (b : Bool) → b ≡ unlike false b
plain true = refl
plain false = refl
