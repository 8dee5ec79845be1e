-- The sign and the size of a sum, and a sum by any fractions of one denominator that its operands equal. Over the mode and the format. Assumes nothing.
use mathlib.Core.Path.{◌≡◌, refl, sym, ap, ◌∙◌}
use mathlib.Core.Bool.{Bool, true, false, cond, beq}
use Prim.Native.Nat.{ℕ, ◌+◌, ◌-◌, ◌*◌, ◌≤◌, ◌<◌}
use native.Mathlib.Nat.{mul-pos, add_comm, add-mul, mul_comm, mul_assoc, mul_right_comm, mul-lt-mul_of_pos_right, lt_of_mul-lt-mul_right, le_of_lt, sub-zero, add-zero, zero-add, zero-mul, lt_of_lt_of_le, lt_of_le_of_lt, le_of_eq}
use native.Mathlib.Decide.{dec_lt}
use native.Mathlib.Omega.{arith}
use borrow.Author.Tests.{lt-ltb, le-ltb}
use lib.Dec.{ltb}
use lib.IntN.{ℤ}
use lib.Ieee.{Float, nan, inf, fin, Format, up, down}
use lib.Ieee.Fits.{down_pos}
use lib.Ieee.Exact.{HasValue}
use Rattle.rounding.specs.Rounding.{rounded, apart}
use Rattle.rounding.specs.declared.rounding.Rounding.{Rounding}
use Rattle.packing.proofs.Written.{rounded_same}
use Rattle.operators.proofs.Values.{Steady}
use Rattle.operators.specs.Operators.{zero_sign, sum_size, sum_sign, sum}

-- ---- a sum's sign and size, by the signs and the order

-- σ is the sign and n the size of ±a + ±b
abbrev pub IsSigned : Rounding → Bool → ℕ → Bool → ℕ → Bool → ℕ → Type 0
IsSigned mode s a t b σ n = (sum_sign mode s a t b ≡ σ) × (sum_size s a t b ≡ n)

module _ (mode : Rounding) (s : Bool) (a : ℕ) (t : Bool) (b : ℕ) where
  sign_at : (x y z : Bool) → beq s t ≡ x → ltb a b ≡ y → ltb b a ≡ z → sum_sign mode s a t b ≡ cond x s (cond y t (cond z s (zero_sign mode)))
  sign_at x y z p q r = rw (p, q, r)

  size_at : (x : Bool) → beq s t ≡ x → sum_size s a t b ≡ cond x (a + b) (apart a b)
  size_at x p = rw p

  pub sum_like : beq s t ≡ true → IsSigned mode s a t b s (a + b)
  sum_like e = (sign_at true (ltb a b) (ltb b a) e refl refl, size_at true e)

  pub sum_less : beq s t ≡ false → a < b → IsSigned mode s a t b t (b - a)
  sum_less e h = (sign_at false true (ltb b a) e (lt-ltb a b h) refl, size_at false e ∙ over a b h)
    where
      over : (a b : ℕ) → a < b → apart a b ≡ b - a
      over a b h = omega arith

  pub sum_more : beq s t ≡ false → b < a → IsSigned mode s a t b s (a - b)
  sum_more e h = (sign_at false false true e (le-ltb a b (le_of_lt h)) (lt-ltb b a h), size_at false e ∙ under a b h)
    where
      under : (a b : ℕ) → b < a → apart a b ≡ a - b
      under a b h = omega arith

  pub sum_none : beq s t ≡ false → a ≡ b → IsSigned mode s a t b (zero_sign mode) 0
  sum_none e h = (sign_at false false false e (le-ltb a b (le_of_eq (sym h))) (le-ltb b a (le_of_eq h)), size_at false e ∙ none a b h)
    where
      none : (a b : ℕ) → a ≡ b → apart a b ≡ 0
      none a b h = omega arith

-- which of two numbers is the larger
data Way (a b : ℕ) : Type 0 where
  less : a < b → Way a b
  more : b < a → Way a b
  level : a ≡ b → Way a b

way : (a b : ℕ) → Way a b
way a b = go (dec_lt a b) (dec_lt b a)
  where
    same : (a b : ℕ) → (a < b → ⊥) → (b < a → ⊥) → a ≡ b
    same a b h k = omega arith

    go : Dec (a < b) → Dec (b < a) → Way a b
    go (yes l) d = less l
    go (no n) (yes l) = more l
    go (no n) (no m) = level (same a b n m)

-- ---- equal fractions

scaled_lt : (a b c d x y : ℕ) → 0 < d → a * d ≡ x * c → b * d ≡ y * c → a < b → x < y
scaled_lt a b c d x y D p q h = lt_of_mul-lt-mul_right c (lt_of_le_of_lt (le_of_eq (sym p)) (lt_of_lt_of_le (mul-lt-mul_of_pos_right h D) (le_of_eq q)))

difference : (a b c d x y : ℕ) → a * d ≡ x * c → b * d ≡ y * c → a ≤ b → x ≤ y → (b - a) * d ≡ (y - x) * c
difference a b c d x y p q h k = last (a * d) ((b - a) * d) ((y - x) * c) (b * d) (x * c) (y * c) p q (whole a b d h) (whole x y c k)
  where
    back : (a b : ℕ) → a ≤ b → b - a + a ≡ b
    back a b h = omega arith

    whole : (a b d : ℕ) → a ≤ b → (b - a) * d + a * d ≡ b * d
    whole a b d h = sym (add-mul (b - a) a d) ∙ ap (λ (z : ℕ). z * d) (back a b h)

    last : (ad bad yxc bd xc yc : ℕ) → ad ≡ xc → bd ≡ yc → bad + ad ≡ bd → yxc + xc ≡ yc → bad ≡ yxc
    last ad bad yxc bd xc yc p q r s = omega arith

cancelled : (a b c d x y : ℕ) → 0 < c → a * d ≡ x * c → b * d ≡ y * c → a ≡ b → x ≡ y
cancelled a b c d x y C p q e = go (way x y)
  where
    eq : x * c ≡ y * c
    eq = sym p ∙ ap (λ (z : ℕ). z * d) e ∙ q

    not_less : (p q : ℕ) → p < q → p ≡ q → ⊥
    not_less p q h e = omega arith

    go : Way x y → x ≡ y
    go (less l) = absurd (not_less (x * c) (y * c) (mul-lt-mul_of_pos_right l C) eq)
    go (more l) = absurd (not_less (y * c) (x * c) (mul-lt-mul_of_pos_right l C) (sym eq))
    go (level e) = e

-- equal fractions have sums of one sign and equal sizes
pub signed_same : (mode : Rounding) (s : Bool) (a : ℕ) (t : Bool) (b c x y d : ℕ) → 0 < c → 0 < d → a * d ≡ x * c → b * d ≡ y * c
    → (sum_sign mode s a t b ≡ sum_sign mode s x t y) × (sum_size s a t b * d ≡ sum_size s x t y * c)
signed_same mode s a t b c x y d C D p q = go (beq s t) refl (way a b)
  where
    alike : (σ : Bool) (n m : ℕ) → IsSigned mode s a t b σ n → IsSigned mode s x t y σ m → n * d ≡ m * c
        → (sum_sign mode s a t b ≡ sum_sign mode s x t y) × (sum_size s a t b * d ≡ sum_size s x t y * c)
    alike σ n m h k e = (h.0 ∙ sym k.0, ap (λ (z : ℕ). z * d) h.1 ∙ e ∙ ap (λ (z : ℕ). z * c) (sym k.1))

    go : (w : Bool) → beq s t ≡ w → Way a b → (sum_sign mode s a t b ≡ sum_sign mode s x t y) × (sum_size s a t b * d ≡ sum_size s x t y * c)
    go true e h =
        alike s (a + b) (x + y) (sum_like mode s a t b e) (sum_like mode s x t y e)
        (add-mul a b d ∙ ap (λ (z : ℕ). z + b * d) p ∙ ap (λ (z : ℕ). x * c + z) q ∙ sym (add-mul x y c))
    go false e (less l) =
        let k : x < y = scaled_lt a b c d x y D p q l in
        alike t (b - a) (y - x) (sum_less mode s a t b e l) (sum_less mode s x t y e k) (difference a b c d x y p q (le_of_lt l) (le_of_lt k))
    go false e (more l) =
        let k : y < x = scaled_lt b a c d y x D q p l in
        alike s (a - b) (x - y) (sum_more mode s a t b e l) (sum_more mode s x t y e k) (difference b a c d y x q p (le_of_lt l) (le_of_lt k))
    go false e (level l) =
        alike (zero_sign mode) 0 0 (sum_none mode s a t b e l) (sum_none mode s x t y e (cancelled a b c d x y C p q l)) (zero-mul d ∙ sym (zero-mul c))

-- what equal fractions give alike, sums of them give alike
pub sum_same : {A : Type 0} (give : Bool → ℕ → ℕ → A) → Steady give
    → (mode : Rounding) (s : Bool) (a : ℕ) (t : Bool) (b c x y d : ℕ) → 0 < c → 0 < d → a * d ≡ x * c → b * d ≡ y * c
    → give (sum_sign mode s a t b) (sum_size s a t b) c ≡ give (sum_sign mode s x t y) (sum_size s x t y) d
sum_same give same mode s a t b c x y d C D p q =
    let k = signed_same mode s a t b c x y d C D p q in
    same (sum_sign mode s a t b) (sum_size s a t b) c (sum_size s x t y) d C D k.1 ∙ ap (λ (σ : Bool). give σ (sum_size s x t y) d) k.0

-- the same of the digits that values have
pub values_same : {A : Type 0} (give : Bool → ℕ → ℕ → A) → Steady give
    → (mode : Rounding) (u : Bool) (m : ℕ) (e : ℤ) (v : Bool) (n : ℕ) (g : ℤ) (s t : Bool) (a b c : ℕ) → 0 < c → HasValue (fin u m e) s a c → HasValue (fin v n g) t b c
    → give (sum_sign mode u (m * up e * down g) v (n * up g * down e)) (sum_size u (m * up e * down g) v (n * up g * down e)) (down e * down g)
    ≡ give (sum_sign mode s a t b) (sum_size s a t b) c
values_same give same mode u m e v n g s t a b c C h k =
    ap (λ (w : Bool). give (sum_sign mode w (m * up e * down g) v (n * up g * down e)) (sum_size w (m * up e * down g) v (n * up g * down e)) (down e * down g)) h.0
    ∙ ap (λ (w : Bool). give (sum_sign mode s (m * up e * down g) w (n * up g * down e)) (sum_size s (m * up e * down g) w (n * up g * down e)) (down e * down g)) k.0
    ∙ sum_same give same mode s (m * up e * down g) t (n * up g * down e) (down e * down g) a b c (mul-pos (down_pos e) (down_pos g)) C
    (mul_right_comm (m * up e) (down g) c ∙ ap (λ (z : ℕ). z * down g) h.1 ∙ mul_assoc a (down e) (down g))
    (mul_right_comm (n * up g) (down e) c ∙ ap (λ (z : ℕ). z * down e) k.1 ∙ mul_assoc b (down g) (down e) ∙ ap (λ (z : ℕ). b * z) (mul_comm (down g) (down e)))

pub sum_at : (mode : Rounding) (f : Format) (x y : Float) (s t : Bool) (a b c : ℕ) → 0 < c → HasValue x s a c → HasValue y t b c
    → sum mode f x y ≡ rounded mode f (sum_sign mode s a t b) (sum_size s a t b) c
unfolding sum
sum_at mode f nan y s t a b c C h k = absurd h
sum_at mode f (inf u) y s t a b c C h k = absurd h
sum_at mode f (fin u m e) nan s t a b c C h k = absurd k
sum_at mode f (fin u m e) (inf v) s t a b c C h k = absurd k
sum_at mode f (fin u m e) (fin v n g) s t a b c C h k = values_same (rounded mode f) (rounded_same mode f) mode u m e v n g s t a b c C h k

-- ---- the order of the operands plays no part

same_sign : (s t : Bool) → beq s t ≡ true → s ≡ t
same_sign true true e = refl
same_sign false false e = refl
same_sign true false e = sym e
same_sign false true e = e

pub sum_swap : (mode : Rounding) (s : Bool) (a : ℕ) (t : Bool) (b : ℕ) → (sum_sign mode t b s a ≡ sum_sign mode s a t b) × (sum_size t b s a ≡ sum_size s a t b)
sum_swap mode s a t b = go (beq s t) refl (way a b)
  where
    turned : (s t : Bool) → beq t s ≡ beq s t
    turned true true = refl
    turned true false = refl
    turned false true = refl
    turned false false = refl

    alike : (σ τ : Bool) (n m : ℕ) → IsSigned mode s a t b σ n → IsSigned mode t b s a τ m → τ ≡ σ → m ≡ n
        → (sum_sign mode t b s a ≡ sum_sign mode s a t b) × (sum_size t b s a ≡ sum_size s a t b)
    alike σ τ n m h k d e = (k.0 ∙ d ∙ sym h.0, k.1 ∙ e ∙ sym h.1)

    go : (w : Bool) → beq s t ≡ w → Way a b → (sum_sign mode t b s a ≡ sum_sign mode s a t b) × (sum_size t b s a ≡ sum_size s a t b)
    go true e h = alike s t (a + b) (b + a) (sum_like mode s a t b e) (sum_like mode t b s a (turned s t ∙ e)) (sym (same_sign s t e)) (add_comm b a)
    go false e (less l) = alike t t (b - a) (b - a) (sum_less mode s a t b e l) (sum_more mode t b s a (turned s t ∙ e) l) refl refl
    go false e (more l) = alike s s (a - b) (a - b) (sum_more mode s a t b e l) (sum_less mode t b s a (turned s t ∙ e) l) refl refl
    go false e (level l) = alike (zero_sign mode) (zero_sign mode) 0 0 (sum_none mode s a t b e l) (sum_none mode t b s a (turned s t ∙ e) (sym l)) refl refl

-- ---- a zero adds nothing

pub zero_plus : (mode : Rounding) (s t : Bool) (b : ℕ) → 0 < b → IsSigned mode s 0 t b t b
zero_plus mode s t b B = go (beq s t) refl
  where
    go : (w : Bool) → beq s t ≡ w → IsSigned mode s 0 t b t b
    go true e = let k = sum_like mode s 0 t b e in (k.0 ∙ same_sign s t e, k.1 ∙ zero-add b)
    go false e = let k = sum_less mode s 0 t b e B in (k.0, k.1 ∙ sub-zero b)

pub plus_zero : (mode : Rounding) (s t : Bool) (a : ℕ) → 0 < a → IsSigned mode s a t 0 s a
plus_zero mode s t a A = go (beq s t) refl
  where
    go : (w : Bool) → beq s t ≡ w → IsSigned mode s a t 0 s a
    go true e = let k = sum_like mode s a t 0 e in (k.0, k.1 ∙ add-zero a)
    go false e = let k = sum_more mode s a t 0 e A in (k.0, k.1 ∙ sub-zero a)
