-- The whole square root, and what `sqrt_of` writes. Over the mode and the format. Assumes nothing.
use mathlib.Core.Path.{◌≡◌, sym, ap, ◌∙◌, subst}
use mathlib.Core.Logic.{inl, inr}
use mathlib.Core.Bool.{Bool, true, false, not, cond}
use Prim.Native.Nat.{ℕ, zero, suc, ◌+◌, ◌*◌, ◌/◌, ◌^◌, ◌≤◌, ◌<◌, compare, Ordering}
use native.Mathlib.Nat.{le_trans, le_of_eq, lt_of_lt_of_le, zero-lt-suc, le_antisymm, not-le_of_lt, lt_of_not-le, le_of_suc-le-suc, mul-one, mul_assoc, mul_comm, mul_right_comm, mul-mul-mul_comm, mul-pos, mul-le-mul, mul-le-mul_right, mul-div_cancel, div-lt_iff_lt-mul, le-div_iff_mul-le, eq_of_mul-eq-mul_right, mul-lt-mul_of_pos_right, div-one, zero-mul, pow-le-pow_left, pow-suc}
use native.Mathlib.Omega.{arith}
use lib.Dec.{T, lit≤, leb, eqb, compare_is_eq, leb→le, nleb→lt}
use lib.Pow.{pow-add, pow_pos}
use lib.Ieee.{Float, nan, inf, fin, Format, prec, low, up, down, size, hid, to_bits}
use lib.Ieee.Digits.{size-lt}
use lib.Ieee.Fits.{down_pos}
use lib.Ieee.Exact.{HasValue}
use Rattle.rounding.specs.declared.rounding.Rounding.{Rounding}
use Rattle.rounding.specs.Rounding.{move, settled, dropped}
use Rattle.packing.specs.Pack.{packed}
use Rattle.exceptions.specs.Exceptions.{invalid, inexact}
use Rattle.roots.specs.Root.{root_in, isqrt, root_cut, root_of, sqrt_of, exact_root, sqrt_exceptions}
use Rattle.floats.proofs.Units.{Lead, drop_is}
use Rattle.rounding.proofs.Cutting.{move_ge, move-le}
use Rattle.packing.proofs.Written.{settled_bits}
use Rattle.rounding.proofs.Order.{compare_scale}

-- ---- squares

abbrev Root : ℕ → ℕ → Type 0
Root n r = (r * r ≤ n) × (n < suc r * suc r)

twice_square : (s : ℕ) → 2 * s * (2 * s) ≡ s * s * 4
twice_square s = mul-mul-mul_comm 2 s 2 s ∙ mul_comm 4 (s * s)

quarter_le : (a n : ℕ) → a ≤ n / 4 → a * 4 ≤ n
quarter_le a n h = omega arith

quarter_lt : (a n : ℕ) → n / 4 < a → n < a * 4
quarter_lt a n h = omega arith

two_more : (s : ℕ) → 2 * suc s ≡ suc (suc (2 * s))
two_more s = omega arith

root_in_lem : (d n : ℕ) → n < 4 ^ d → Root n (root_in d n)
unfolding root_in
root_in_lem zero n h = (low n h, h)
  where
    low : (n : ℕ) → n < 1 → 0 ≤ n
    low n h = omega arith
root_in_lem (suc d) n h = go (root_in_lem d (n / 4) ((div-lt_iff_lt-mul (zero-lt-suc 3)).1 (subst (λ (x : ℕ). n < x) (pow-suc 4 d) h))) (leb (suc (2 * root_in d (n / 4)) * suc (2 * root_in d (n / 4))) n) (leb→le (suc (2 * root_in d (n / 4)) * suc (2 * root_in d (n / 4))) n) (nleb→lt (suc (2 * root_in d (n / 4)) * suc (2 * root_in d (n / 4))) n)
  where
    go : Root (n / 4) (root_in d (n / 4)) → (b : Bool) → (T b → suc (2 * root_in d (n / 4)) * suc (2 * root_in d (n / 4)) ≤ n) → (T (not b) → n < suc (2 * root_in d (n / 4)) * suc (2 * root_in d (n / 4)))
        → Root n (cond b (suc (2 * root_in d (n / 4))) (2 * root_in d (n / 4)))
    go r true g l =
        let s = root_in d (n / 4) in
        (g tt, lt_of_lt_of_le (quarter_lt (suc s * suc s) n r.1) (le_of_eq (sym (twice_square (suc s)) ∙ ap (λ (x : ℕ). x * x) (two_more s))))
    go r false g l =
        let s = root_in d (n / 4) in
        (le_trans (le_of_eq (twice_square s)) (quarter_le (s * s) n r.0), l tt)

four : (d : ℕ) → 2 ^ d ≤ 4 ^ d
four d = pow-le-pow_left (lit≤ tt) d

pub is_Root : (n : ℕ) → Root n (isqrt n)
unfolding isqrt
is_Root n = root_in_lem (size n) n (lt_of_lt_of_le (size-lt n) (four (size n)))

square_mono : (a b : ℕ) → a ≤ b → a * a ≤ b * b
square_mono a b h = mul-le-mul h h

below_square : (n a b : ℕ) → a * a ≤ n → n < suc b * suc b → a ≤ b
below_square n a b h l = le_of_suc-le-suc (lt_of_not-le (λ (g : suc b ≤ a). not-le_of_lt (lt_of_lt_of_le l (square_mono (suc b) a g)) h))

pub isqrt_unique : (n r : ℕ) → r * r ≤ n → n < suc r * suc r → isqrt n ≡ r
isqrt_unique n r h l = le_antisymm (below_square n (isqrt n) r (is_Root n).0 l) (below_square n r (isqrt n) h (is_Root n).1)

pub isqrt_ge : (n a : ℕ) → a * a ≤ n → a ≤ isqrt n
isqrt_ge n a h = below_square n a (isqrt n) h (is_Root n).1

pub isqrt-lt : (n a : ℕ) → n < a * a → isqrt n < a
isqrt-lt n a h = lt_of_not-le (λ (g : a ≤ isqrt n). not-le_of_lt (lt_of_lt_of_le h (square_mono a (isqrt n) g)) (is_Root n).0)

-- the root of n * b * b, cut by b, is the root of n
root_cut_lem : (n b : ℕ) → 0 < b → isqrt (n * (b * b)) / b ≡ isqrt n
root_cut_lem n b B =
    let r = isqrt n in
    le_antisymm
    (le_of_suc-le-suc ((div-lt_iff_lt-mul B).1 (isqrt-lt (n * (b * b)) (suc r * b) (lt_of_lt_of_le (mul-lt-mul_of_pos_right (is_Root n).1 (mul-pos B B)) (le_of_eq (mul-mul-mul_comm (suc r) (suc r) b b))))))
    ((le-div_iff_mul-le B).1 (isqrt_ge (n * (b * b)) (r * b) (le_trans (le_of_eq (sym (mul-mul-mul_comm r r b b))) (mul-le-mul_right (b * b) (is_Root n).0))))

-- ---- a common factor

pub root_same : (mode : Rounding) (n u : ℕ) → 0 < u → root_cut mode (n * u) u ≡ root_cut mode n 1
root_same mode n u U =
    let at : ℕ → Ordering → Bool → ℕ = λ q o x. move mode false q o x in
    let sq : ℕ → ℕ = λ q. (2 * q + 1) * (2 * q + 1) in
    let q = isqrt n in
    let one : n / 1 ≡ n = div-one n in
    ap (λ (w : ℕ). at (isqrt w) (compare (4 * (n * u)) (sq (isqrt w) * u)) (eqb (isqrt w * isqrt w * u) (n * u))) (mul-div_cancel n U)
    ∙ ap (λ (o : Ordering). at q o (eqb (q * q * u) (n * u)))
    (ap (λ (w : ℕ). compare w (sq q * u)) (sym (mul_assoc 4 n u)) ∙ compare_scale (4 * n) (sq q) u U ∙ ap (compare (4 * n)) (sym (mul-one (sq q))))
    ∙ ap (λ (x : Bool). at q (compare (4 * n) (sq q * 1)) x)
    (ap compare_is_eq (compare_scale (q * q) n u U) ∙ ap (λ (w : ℕ). eqb w n) (sym (mul-one (q * q))))
    ∙ ap (λ (w : ℕ). at (isqrt w) (compare (4 * n) (sq (isqrt w) * 1)) (eqb (isqrt w * isqrt w * 1) n)) (sym one)

-- ---- what is written. A is the square of the root in units of the last kept digit

module _ (f : Format) (num den k A : ℕ) (D : 0 < den) (e : num * 2 ^ (low f + low f) ≡ A * (den * 2 ^ (k + k))) (small : isqrt A < 2 ^ prec f) (lead : Lead f k (isqrt A)) where
  abbrev n : ℕ
  n = num * 2 ^ (low f + low f)

  abbrev u : ℕ
  u = den * 2 ^ (k + k)

  u_pos : 0 < u
  u_pos = mul-pos D (pow_pos (k + k))

  k_is : dropped f (isqrt (n / den)) ≡ k
  k_is = drop_is f (isqrt (n / den)) k (subst (λ (x : ℕ). x < 2 ^ prec f) (sym cut) small) (subst (λ (x : ℕ). Lead f k x) (sym cut) lead)
    where
      whole : n / den ≡ A * (2 ^ k * 2 ^ k)
      whole = ap (λ (x : ℕ). x / den) (e ∙ ap (λ (x : ℕ). A * x) (mul_comm den (2 ^ (k + k))) ∙ sym (mul_assoc A (2 ^ (k + k)) den)) ∙ mul-div_cancel (A * 2 ^ (k + k)) D ∙ ap (λ (x : ℕ). A * x) (pow-add 2 k k)

      cut : isqrt (n / den) / 2 ^ k ≡ isqrt A
      cut = ap (λ (x : ℕ). isqrt x / 2 ^ k) whole ∙ root_cut_lem A (2 ^ k) (pow_pos k)

  pub root_bits : (mode : Rounding) → to_bits f (root_of mode f num den) ≡ packed mode f false k (root_cut mode A 1)
  unfolding root_of
  root_bits mode =
      let q : isqrt (A / 1) ≡ isqrt A = ap isqrt (div-one A) in
      let o = compare (4 * A) ((2 * isqrt (A / 1) + 1) * (2 * isqrt (A / 1) + 1) * 1) in
      let x = eqb (isqrt (A / 1) * isqrt (A / 1) * 1) A in
      ap (λ (x : ℕ). to_bits f (settled mode f false (root_cut mode n (den * 2 ^ (x + x))) x)) k_is
      ∙ ap (λ (x : ℕ). to_bits f (settled mode f false (root_cut mode x u) k)) e
      ∙ ap (λ (x : ℕ). to_bits f (settled mode f false x k)) (root_same mode A u u_pos)
      ∙ settled_bits mode f false (root_cut mode A 1) k
      (le_trans (move-le mode false (isqrt (A / 1)) o x) (subst (λ (x : ℕ). x < 2 ^ prec f) (sym q) small))
      (elim lead [ inl z ↦ inl z | inr h ↦ inr (le_trans (subst (λ (x : ℕ). hid f ≤ x) (sym q) h) (move_ge mode false (isqrt (A / 1)) o x)) ])

  pub root_exact : exact_root f num den ≡ eqb (isqrt A * isqrt A) A
  unfolding exact_root
  root_exact =
      ap (λ (x : ℕ). eqb (isqrt (n / (den * 2 ^ (x + x))) * isqrt (n / (den * 2 ^ (x + x))) * (den * 2 ^ (x + x))) n) k_is
      ∙ ap (λ (x : ℕ). eqb (isqrt (x / u) * isqrt (x / u) * u) x) e
      ∙ ap (λ (x : ℕ). eqb (isqrt x * isqrt x * u) (A * u)) (mul-div_cancel A u_pos)
      ∙ ap compare_is_eq (compare_scale (isqrt A * isqrt A) A u u_pos)

-- of a positive value a / c
pub sqrt_is : (mode : Rounding) (f : Format) (v : Float) (a c k A : ℕ) → HasValue v false a c → 0 < c → 0 < a → a * 2 ^ (low f + low f) ≡ A * (c * 2 ^ (k + k)) → isqrt A < 2 ^ prec f → Lead f k (isqrt A)
    → (to_bits f (sqrt_of mode f v) ≡ packed mode f false k (root_cut mode A 1)) × (sqrt_exceptions f v ≡ cond (eqb (isqrt A * isqrt A) A) 0 inexact)
unfolding sqrt_of sqrt_exceptions
sqrt_is mode f nan a c k A h C P e small lead = absurd h
sqrt_is mode f (inf t) a c k A h C P e small lead = absurd h
sqrt_is mode f (fin t zero x) a c k A h C P e small lead = absurd (none (a * down x) (mul-pos P (down_pos x)) (sym h.1 ∙ ap (λ (y : ℕ). y * c) (zero-mul (up x)) ∙ zero-mul c))
  where
    none : (y : ℕ) → 0 < y → y ≡ 0 → ⊥
    none y p z = omega arith
sqrt_is mode f (fin t (suc m) x) a c k A h C P e small lead =
    let num = suc m * up x in
    let den = down x in
    let scaled : num * 2 ^ (low f + low f) ≡ A * (den * 2 ^ (k + k)) =
    eq_of_mul-eq-mul_right c C (num * 2 ^ (low f + low f)) (A * (den * 2 ^ (k + k)))
    (mul_right_comm num (2 ^ (low f + low f)) c
    ∙ ap (λ (y : ℕ). y * 2 ^ (low f + low f)) h.1
    ∙ mul_right_comm a den (2 ^ (low f + low f))
    ∙ ap (λ (y : ℕ). y * den) e
    ∙ mul_assoc A (c * 2 ^ (k + k)) den
    ∙ ap (λ (y : ℕ). A * y) (mul_right_comm c (2 ^ (k + k)) den ∙ mul_assoc c den (2 ^ (k + k)) ∙ mul_comm c (den * 2 ^ (k + k)))
    ∙ sym (mul_assoc A (den * 2 ^ (k + k)) c)) in (
      ap (λ (b : Bool). to_bits f (cond b nan (root_of mode f num den))) h.0 ∙ root_bits f num den k A (down_pos x) scaled small lead mode,
      ap (λ (b : Bool). cond b invalid (cond (exact_root f num den) 0 inexact)) h.0 ∙ ap (λ (b : Bool). cond b 0 inexact) (root_exact f num den k A (down_pos x) scaled small lead),
    )
