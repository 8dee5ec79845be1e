-- The loop that makes a root's digits: what holds after i of them. Assumes nothing.
use mathlib.Core.Path.{◌≡◌, refl, sym, ap, ◌∙◌, subst}
use mathlib.Core.Bool.{Bool, true, false}
use Prim.Native.Nat.{ℕ, suc, ◌+◌, ◌*◌, ◌/◌, ◌%◌, ◌^◌, ◌≤◌, ◌<◌, zero-le, compare, Ordering}
use native.Mathlib.Nat.{le_trans, le_of_eq, lt_of_lt_of_le, lt_of_le_of_lt, le_antisymm, mul-one, mul_assoc, div-one, zero-add}
use native.Mathlib.Omega.{arith}
use native.Mathlib.Numerals.{add-one}
use lib.Dec.{T, lit<, lit≤, eqb, eqb→eq}
use lib.Ieee.Fits.{eq→eqb}
use lib.Arith.{digits_div}
use lib.Pow.{pow-add, pow_mono, shl_exact}
use Rattle.rounding.specs.declared.rounding.Rounding.{Rounding}
use Rattle.rounding.specs.declared.rounding.Rounding.TheVariants.{Nearest, Up, Down, Zero}
use Rattle.rounding.specs.Rounding.{move}
use Rattle.rounding.proofs.Cutting.{move-le}
use Rattle.rounding.proofs.Order.{Cmp, cmp, compare_is}
use Rattle.roots.proofs.Squares.{isqrt_unique}
use Rattle.roots.specs.Root.{isqrt, root_cut, IsRoot, IsRooted}

pub record After (x i root rest left : ℕ) : Type 0 where
  pub sum : (root * root + rest) * 2 ^ 64 + left ≡ x * 2 ^ (i + i)
  pub least : rest ≤ 2 * root
  pub below : root < 2 ^ i
  pub fits : left < 2 ^ 64

pub none : (x : ℕ) → x < 2 ^ 64 → After x 0 0 0 x
none x h = record { sum = zero-add x ∙ sym (mul-one x); least = lit≤ tt; below = lit< tt; fits = h }

pub narrow : (x i steps root rest left : ℕ) → After x i root rest left → i < steps → steps ≤ 60 → root < 2 ^ 60
narrow x i steps root rest left a h l = lt_of_lt_of_le a.below (pow_mono {i = i} {j = 60} (under i steps h l))
  where
    under : (i steps : ℕ) → i < steps → steps ≤ 60 → i ≤ 60
    under i steps h l = omega arith

pub more : (x i root rest left root' rest' : ℕ) → After x i root rest left → IsRoot ((root * root + rest) * 4 + left / 0x4000_0000_0000_0000) root' rest' → root' ≤ 2 * root + 1
    → After x (i + 1) root' rest' (left % 0x4000_0000_0000_0000 * 4)
more x i root rest left root' rest' a r l = record {
  sum =
      ap (λ (z : ℕ). z * 2 ^ 64 + left % 0x4000_0000_0000_0000 * 4) r.sum
      ∙ grow (root * root + rest) left (x * 2 ^ (i + i)) a.sum
      ∙ mul_assoc x (2 ^ (i + i)) (2 ^ 2)
      ∙ ap (λ (z : ℕ). x * z) (sym (pow-add 2 (i + i) 2) ∙ ap (λ (z : ℕ). 2 ^ z) (twice i));
  least = r.least;
  below = lt_of_le_of_lt l (lt_of_lt_of_le (odd root (2 ^ i) a.below) (le_of_eq (ap (λ (z : ℕ). 2 ^ i * z) refl ∙ sym (pow-add 2 i 1))));
  fits = room left;
}
  where
    grow : (s left y : ℕ) → s * 2 ^ 64 + left ≡ y → (s * 4 + left / 0x4000_0000_0000_0000) * 2 ^ 64 + left % 0x4000_0000_0000_0000 * 4 ≡ y * 4
    grow s left y e = omega arith

    twice : (i : ℕ) → i + i + 2 ≡ i + 1 + (i + 1)
    twice i = omega arith

    odd : (r p : ℕ) → r < p → 2 * r + 1 < p * 2
    odd r p h = omega arith

    room : (left : ℕ) → left % 0x4000_0000_0000_0000 * 4 < 2 ^ 64
    room left = omega arith

done : (x i root rest left : ℕ) → After x i root rest left → IsRoot (x * 2 ^ (i + i) / 2 ^ 64) root rest
done x i root rest left a = record {
  sum = sym (digits_div (root * root + rest) a.fits) ∙ ap (λ (z : ℕ). z / 2 ^ 64) a.sum;
  least = a.least;
}

-- ---- rounding by what is left

scaled : (o : Ordering) (q r n : ℕ) → q * q + r ≡ n → Cmp o (r * 2 * 2) (q * 4 + 1) → Cmp o (4 * n) ((2 * q + 1) * (2 * q + 1))
scaled Ordering.lt q r n e h = omega arith
scaled Ordering.eq q r n e h = omega arith
scaled Ordering.gt q r n e h = omega arith

exact_to : (q r n : ℕ) → q * q + r ≡ n → q * q ≡ n → r * 2 ≡ 0
exact_to q r n e h = omega arith

exact_from : (q r n : ℕ) → q * q + r ≡ n → r * 2 ≡ 0 → q * q ≡ n
exact_from q r n e h = omega arith

next_square : (q r n : ℕ) → q * q + r ≡ n → r ≤ 2 * q → n < suc q * suc q
next_square q r n e h = lt_of_lt_of_le (small q r n e h) (le_of_eq (ap (λ (x : ℕ). x * x) (add-one q)))
  where
    small : (q r n : ℕ) → q * q + r ≡ n → r ≤ 2 * q → n < (q + 1) * (q + 1)
    small q r n e h = omega arith

at_most : (q r n : ℕ) → q * q + r ≡ n → q * q ≤ n
at_most q r n e = omega arith

same_eqb : (a b c d : ℕ) → (a ≡ b → c ≡ d) → (c ≡ d → a ≡ b) → eqb a b ≡ eqb c d
same_eqb a b c d f g = go (eqb a b) (eqb c d) (λ t. eq→eqb (f (eqb→eq a b t))) (λ t. eq→eqb (g (eqb→eq c d t)))
  where
    go : (x y : Bool) → (T x → T y) → (T y → T x) → x ≡ y
    go true true p q = refl
    go true false p q = absurd (p tt)
    go false true p q = absurd (q tt)
    go false false p q = refl

whole_root : (n q r : ℕ) → IsRoot n q r → isqrt n ≡ q
whole_root n q r h = isqrt_unique n q (at_most q r n h.sum) (next_square q r n h.sum h.least)

pub rounds : (mode : Rounding) (n q r : ℕ) → IsRoot n q r → move mode false q (compare (r * 2 * 2) (q * 4 + 1)) (eqb (r * 2) 0) ≡ root_cut mode n 1
rounds mode n q r h =
    let is : isqrt (n / 1) ≡ q = ap isqrt (div-one n) ∙ whole_root n q r h in
    ap (λ (o : Ordering). move mode false q o (eqb (r * 2) 0)) (sym (compare_is (compare (r * 2 * 2) (q * 4 + 1)) (4 * n) ((2 * q + 1) * (2 * q + 1)) (scaled (compare (r * 2 * 2) (q * 4 + 1)) q r n h.sum (cmp (r * 2 * 2) (q * 4 + 1)))))
    ∙ ap (λ (b : Bool). move mode false q (compare (4 * n) ((2 * q + 1) * (2 * q + 1))) b) (same_eqb (r * 2) 0 (q * q) n (exact_from q r n h.sum) (exact_to q r n h.sum))
    ∙ ap (λ (x : ℕ). move mode false q (compare (4 * n) x) (eqb (q * q) n)) (sym (mul-one ((2 * q + 1) * (2 * q + 1))))
    ∙ ap (λ (x : ℕ). move mode false q (compare (4 * n) ((2 * q + 1) * (2 * q + 1) * 1)) (eqb x n)) (sym (mul-one (q * q)))
    ∙ ap (λ (z : ℕ). move mode false z (compare (4 * n) ((2 * z + 1) * (2 * z + 1) * 1)) (eqb (z * z * 1) n)) (sym is)

pub rooted_is : (mode : Rounding) (n w steps q r kept : ℕ) (x : Bool) → IsRoot w q r → w ≡ n → q < 2 ^ steps
    → kept ≡ move mode false q (compare (r * 2 * 2) (q * 4 + 1)) (eqb (r * 2) 0) → x ≡ eqb (r * 2) 0 → IsRooted mode n (2 ^ steps) kept x
rooted_is mode n w steps q r kept x h e l p d =
    let g : IsRoot n q r = subst (λ (z : ℕ). IsRoot z q r) e h in
    record {
      kept_is = p ∙ rounds mode n q r g;
      below = le_trans (le_of_eq p) (le_trans (move-le mode false q _ _) l);
      exact_is = d ∙ same_eqb (r * 2) 0 (q * q) n (exact_from q r n g.sum) (exact_to q r n g.sum) ∙ ap (λ (z : ℕ). eqb (z * z) n) (sym (whole_root n q r g));
    }

-- The square of a root of q * q + rest is all of it where the rest is what i steps from q to the root take.
pub steps_exact : (mode : Rounding) (q rest i : ℕ) → q + i ≡ root_cut mode (q * q + rest) 1 → eqb (i * (2 * q + i)) rest ≡ eqb (isqrt (q * q + rest) * isqrt (q * q + rest)) (q * q + rest)
steps_exact mode q rest i e = same_eqb (i * (2 * q + i)) rest (isqrt n * isqrt n) n to from
  where
    n : ℕ
    n = q * q + rest

    whole : (q rest i : ℕ) → i * (2 * q + i) ≡ rest → (q + i) * (q + i) + 0 ≡ q * q + rest
    whole q rest i h = omega arith

    square : (z : ℕ) → z * z + 0 ≡ z * z
    square z = omega arith

    to : i * (2 * q + i) ≡ rest → isqrt n * isqrt n ≡ n
    to h = ap (λ (z : ℕ). z * z) (whole_root n (q + i) 0 (record { sum = whole q rest i h; least = zero-le })) ∙ sym (square (q + i)) ∙ whole q rest i h

    -- an exact root is that of every mode
    alike : (mode : Rounding) (z : ℕ) → z * z ≡ n → root_cut mode n 1 ≡ z
    alike mode z h = sym (rounds mode n z 0 (record { sum = square z ∙ h; least = zero-le })) ∙ ap (λ (o : Ordering). move mode false z o true) (compare_is Ordering.lt (0 * 2 * 2) (z * 4 + 1) (some z)) ∙ kept mode z
      where
        some : (z : ℕ) → 0 * 2 * 2 < z * 4 + 1
        some z = omega arith

        kept : (mode : Rounding) (z : ℕ) → move mode false z Ordering.lt true ≡ z
        kept Nearest z = refl
        kept Up z = refl
        kept Down z = refl
        kept Zero z = refl

    rest_is : (q rest i z : ℕ) → q + i ≡ z → z * z ≡ q * q + rest → i * (2 * q + i) ≡ rest
    rest_is q rest i z d h = go (subst (λ (z : ℕ). z * z ≡ q * q + rest) (sym d) h)
      where
        go : (q + i) * (q + i) ≡ q * q + rest → i * (2 * q + i) ≡ rest
        go h = omega arith

    from : isqrt n * isqrt n ≡ n → i * (2 * q + i) ≡ rest
    from h = rest_is q rest i (isqrt n) (e ∙ alike mode (isqrt n) h) h

-- the number at the top of 64 bits
pub at_top : (m e : ℕ) → m < 2 ^ 53 → m * 2 ^ (e % 2 + 10) % 2 ^ 64 ≡ m * 2 ^ (e % 2 + 10)
at_top m e h = shl_exact 53 (e % 2 + 10) 64 h (small e)
  where
    small : (e : ℕ) → 53 + (e % 2 + 10) ≤ 64
    small e = omega arith

pub all_done : (x i steps root rest left : ℕ) → After x i root rest left → i ≤ steps → steps ≤ i → IsRoot (x * 2 ^ (steps + steps) / 2 ^ 64) root rest × (root < 2 ^ steps)
all_done x i steps root rest left a h l =
    let e : i ≡ steps = le_antisymm h l in
    (subst (λ (n : ℕ). IsRoot (x * 2 ^ (n + n) / 2 ^ 64) root rest) e (done x i root rest left a), subst (λ (n : ℕ). root < 2 ^ n) e a.below)

pub few_digits : (root steps : ℕ) → root < 2 ^ steps → steps ≤ 60 → root < 2 ^ 60
few_digits root steps h l = lt_of_lt_of_le h (pow_mono {i = steps} {j = 60} l)
