-- Rounding a fraction to a whole number. Over the mode. Assumes nothing.
use mathlib.Core.Path.{◌≡◌, refl, sym, ap, ◌∙◌, subst}
use mathlib.Core.Logic.{◌⊎◌, inl, inr}
use mathlib.Core.Bool.{Bool, true, false, not, cond, ◌||◌}
use Prim.Native.Nat.{ℕ, zero, suc, ◌+◌, ◌-◌, ◌*◌, ◌/◌, ◌%◌, ◌^◌, ◌≤◌, ◌<◌, min, compare, Ordering}
use native.Mathlib.Nat.{le_trans, le_of_eq, le_refl, le-suc, le_antisymm, le_of_suc-le-suc, lt_of_lt_of_le, suc-mul, add-zero, div-lt_iff_lt-mul, le-div_iff_mul-le, zero-lt-suc, one-mul, zero-mul, add-mul, mul_comm, mul_right_comm, mul-pos, div-add-mod', mod-eq_of_lt, div-eq_of_lt, mod-lt, min-eq_left, min-eq_right, lt_of_not-le}
use native.Mathlib.Decide.{dec_le, dec_lt}
use native.Mathlib.Numerals.{add-one, one-add}
use native.Mathlib.Omega.{arith}
use lib.Dec.{T, eqb, eqb→eq, lit≤, lit<}
use lib.Pow.{pow-add, pow_pos, pow_mono, shr_lt, shl_exact}
use lib.Ieee.{nearest}
use lib.Ieee.Fits.{nearest-le, eq→eqb}
use lib.Ieee.Nearest.{nearest-ge, div_same}
use borrow.Author.Tests.{eq-eqb, ne_eqb}
use Rattle.rounding.specs.Rounding.{rounding_of, move, cut_to, increment, IsCut}
use Rattle.rounding.specs.declared.rounding.Rounding.{Rounding}
use Rattle.rounding.specs.declared.rounding.Rounding.TheVariants.{Nearest, Up, Down, Zero}
use Rattle.rounding.proofs.Order.{Cmp, cmp, compare_scale, compare_is}

-- ---- the mode of a control word

chosen : (control : ℕ) (x y z : Bool) → eqb (control / 2 ^ 22 % 4) 0 ≡ x → eqb (control / 2 ^ 22 % 4) 1 ≡ y → eqb (control / 2 ^ 22 % 4) 2 ≡ z
    → rounding_of control ≡ cond x Nearest (cond y Up (cond z Down Zero))
unfolding rounding_of
chosen control x y z p q r = rw (p, q, r)

module _ (control : ℕ) where
  abbrev mode : ℕ
  mode = control / 2 ^ 22 % 4

  pub mode_nearest : mode ≡ 0 → Nearest ≡ rounding_of control
  mode_nearest e = sym (chosen control true (eqb mode 1) (eqb mode 2) (eq-eqb mode 0 e) refl refl)

  pub mode_up : (mode ≡ 0 → ⊥) → mode ≡ 1 → Up ≡ rounding_of control
  mode_up a e = sym (chosen control false true (eqb mode 2) (ne_eqb mode 0 a) (eq-eqb mode 1 e) refl)

  pub mode_down : (mode ≡ 0 → ⊥) → (mode ≡ 1 → ⊥) → mode ≡ 2 → Down ≡ rounding_of control
  mode_down a b e = sym (chosen control false false true (ne_eqb mode 0 a) (ne_eqb mode 1 b) (eq-eqb mode 2 e))

  pub mode-zero : (mode ≡ 0 → ⊥) → (mode ≡ 1 → ⊥) → (mode ≡ 2 → ⊥) → Zero ≡ rounding_of control
  mode-zero a b d = sym (chosen control false false false (ne_eqb mode 0 a) (ne_eqb mode 1 b) (ne_eqb mode 2 d))

-- ---- one step at most

either_ge : (b : Bool) (q : ℕ) → q ≤ cond b q (suc q)
either_ge true q = le_refl q
either_ge false q = le-suc q

either_le : (b : Bool) (q : ℕ) → cond b q (suc q) ≤ suc q
either_le true q = le-suc q
either_le false q = le_refl (suc q)

pub move_ge : (mode : Rounding) (s : Bool) (q : ℕ) (o : Ordering) (x : Bool) → q ≤ move mode s q o x
move_ge Nearest s q o x = nearest-ge q o
move_ge Up s q o x = either_ge (s || x) q
move_ge Down s q o x = either_ge (not s || x) q
move_ge Zero s q o x = le_refl q

pub move-le : (mode : Rounding) (s : Bool) (q : ℕ) (o : Ordering) (x : Bool) → move mode s q o x ≤ suc q
move-le Nearest s q o x = nearest-le q o
move-le Up s q o x = either_le (s || x) q
move-le Down s q o x = either_le (not s || x) q
move-le Zero s q o x = le-suc q

pub cut_ge : (mode : Rounding) (s : Bool) (m u : ℕ) → m / u ≤ cut_to mode s m u
cut_ge mode s m u = move_ge mode s (m / u) (compare (m % u * 2) u) (eqb (m % u) 0)

pub cut_le : (mode : Rounding) (s : Bool) (m u : ℕ) → cut_to mode s m u ≤ suc (m / u)
cut_le mode s m u = move-le mode s (m / u) (compare (m % u * 2) u) (eqb (m % u) 0)

-- ---- equal fractions are cut alike

same_test : (a b : ℕ) → (a ≡ 0 → b ≡ 0) → (b ≡ 0 → a ≡ 0) → eqb a 0 ≡ eqb b 0
same_test a b f g = go (eqb a 0) (eqb b 0) (λ t. eq→eqb (f (eqb→eq a 0 t))) (λ t. eq→eqb (g (eqb→eq b 0 t)))
  where
    go : (x y : Bool) → (T x → T y) → (T y → T x) → x ≡ y
    go true true p q = refl
    go true false p q = absurd (p tt)
    go false true p q = absurd (q tt)
    go false false p q = refl

cancel : (p x y : ℕ) → p + x ≡ p + y → x ≡ y
cancel p x y e = omega arith

remainders : (a b c d : ℕ) → 0 < b → 0 < d → a * d ≡ c * b → a % b * d ≡ c % d * b
remainders a b c d B D e =
    cancel (a / b * b * d) (a % b * d) (c % d * b)
    (sym (add-mul (a / b * b) (a % b) d)
    ∙ ap (λ (z : ℕ). z * d) (div-add-mod' a b)
    ∙ e
    ∙ ap (λ (z : ℕ). z * b) (sym (div-add-mod' c d))
    ∙ add-mul (c / d * d) (c % d) b
    ∙ ap (λ (z : ℕ). z + c % d * b) (ap (λ (z : ℕ). z * d * b) (sym (div_same a b c d B D e)) ∙ mul_right_comm (a / b) d b))

none : (r d t b : ℕ) → 0 < b → r * d ≡ t * b → r ≡ 0 → t ≡ 0
none r d zero b B e z = refl
none r d (suc t) b B e z = absurd (pos (suc t * b) (mul-pos (zero-lt-suc t) B) (sym e ∙ ap (λ (x : ℕ). x * d) z ∙ zero-mul d))
  where
    pos : (x : ℕ) → 0 < x → x ≡ 0 → ⊥
    pos x h k = omega arith

-- nothing is left of both or of neither
pub rest_same : (a b c d : ℕ) → 0 < b → 0 < d → a * d ≡ c * b → eqb (a % b) 0 ≡ eqb (c % d) 0
rest_same a b c d B D e =
    let r : a % b * d ≡ c % d * b = remainders a b c d B D e in
    same_test (a % b) (c % d) (none (a % b) d (c % d) b B r) (none (c % d) b (a % b) d D (sym r))

pub cut_same : (mode : Rounding) (s : Bool) (a b c d : ℕ) → 0 < b → 0 < d → a * d ≡ c * b → cut_to mode s a b ≡ cut_to mode s c d
cut_same mode s a b c d B D e =
    let r : a % b * d ≡ c % d * b = remainders a b c d B D e in
    let o : compare (a % b * 2) b ≡ compare (c % d * 2) d =
    sym (compare_scale (a % b * 2) b d D)
    ∙ ap (λ (z : ℕ). compare z (b * d)) (mul_right_comm (a % b) 2 d ∙ ap (λ (z : ℕ). z * 2) r ∙ mul_right_comm (c % d) b 2)
    ∙ ap (compare (c % d * 2 * b)) (mul_comm b d)
    ∙ compare_scale (c % d * 2) d b B in
    ap (λ (z : ℕ). move mode s z (compare (a % b * 2) b) (eqb (a % b) 0)) (div_same a b c d B D e)
    ∙ ap (λ (z : Ordering). move mode s (c / d) z (eqb (a % b) 0)) o
    ∙ ap (λ (z : Bool). move mode s (c / d) (compare (c % d * 2) d) z) (rest_same a b c d B D e)

-- ---- where less than half of the smallest value is left, it does not matter how much less

pub cut_tiny : (mode : Rounding) (s : Bool) (m u : ℕ) → m * 2 < u → cut_to mode s m u ≡ move mode s 0 Ordering.lt (eqb m 0)
cut_tiny mode s m u h =
    let l : m < u = small m u h in
    ap (λ (q : ℕ). move mode s q (compare (m % u * 2) u) (eqb (m % u) 0)) (div-eq_of_lt l)
    ∙ ap (λ (r : ℕ). move mode s 0 (compare (r * 2) u) (eqb r 0)) (mod-eq_of_lt l)
    ∙ ap (λ (o : Ordering). move mode s 0 o (eqb m 0)) (compare_is Ordering.lt (m * 2) u h)
  where
    small : (m u : ℕ) → m * 2 < u → m < u
    small m u h = omega arith

shift_is : (sh : ℕ) → (sh ≤ 63) ⊎ (63 ≤ sh)
shift_is sh = go (dec_le sh 63)
  where
    go : Dec (sh ≤ 63) → (sh ≤ 63) ⊎ (63 ≤ sh)
    go (yes l) = inl l
    go (no n) = inr (le_trans (le-suc 63) (lt_of_not-le n))

twice : (m : ℕ) → m < 2 ^ 62 → m * 2 < 2 ^ 63
twice m h = omega arith

-- a shift of 63 is as good as any longer one
pub cut_far : (mode : Rounding) (s : Bool) (m sh : ℕ) → m < 2 ^ 62 → cut_to mode s m (2 ^ min sh 63) ≡ cut_to mode s m (2 ^ sh)
cut_far mode s m sh h = elim (shift_is sh) [
  | inl l ↦ ap (λ (x : ℕ). cut_to mode s m (2 ^ x)) (min-eq_left l)
  | inr l ↦
      ap (λ (x : ℕ). cut_to mode s m (2 ^ x)) (min-eq_right l)
      ∙ cut_tiny mode s m (2 ^ 63) (twice m h)
      ∙ sym (cut_tiny mode s m (2 ^ sh) (lt_of_lt_of_le (twice m h) (pow_mono {i = 63} l)))
]

pub rest_far : (m sh : ℕ) → m < 2 ^ 62 → eqb (m % 2 ^ min sh 63) 0 ≡ eqb (m % 2 ^ sh) 0
rest_far m sh h = elim (shift_is sh) [
  | inl l ↦ ap (λ (x : ℕ). eqb (m % 2 ^ x) 0) (min-eq_left l)
  | inr l ↦
      ap (λ (x : ℕ). eqb (m % 2 ^ x) 0) (min-eq_right l)
      ∙ ap (λ (x : ℕ). eqb x 0) (mod-eq_of_lt (half m (2 ^ 63) (twice m h)) ∙ sym (mod-eq_of_lt (half m (2 ^ sh) (lt_of_lt_of_le (twice m h) (pow_mono {i = 63} l)))))
]
  where
    half : (m u : ℕ) → m * 2 < u → m < u
    half m u h = omega arith

pub whole_far : (m sh : ℕ) → m < 2 ^ 62 → m / 2 ^ min sh 63 ≡ m / 2 ^ sh
whole_far m sh h =
    elim (shift_is sh) [
      | inl l ↦ ap (λ (x : ℕ). m / 2 ^ x) (min-eq_left l)
      | inr l ↦ ap (λ (x : ℕ). m / 2 ^ x) (min-eq_right l) ∙ none_left 63 (lit≤ tt) ∙ sym (none_left sh (le_trans (lit≤ tt) l))
    ]
  where
    none_left : (w : ℕ) → 62 ≤ w → m / 2 ^ w ≡ 0
    none_left w g = div-eq_of_lt (lt_of_lt_of_le h (pow_mono g))

-- what is kept has few digits
pub cut_few : (mode : Rounding) (s : Bool) (m p sh w : ℕ) → m < 2 ^ w → w ≤ p + sh → cut_to mode s m (2 ^ sh) ≤ 2 ^ p
cut_few mode s m p sh w h l = le_trans (move-le mode s (m / 2 ^ sh) _ _) (shr_lt p sh (lt_of_lt_of_le h (pow_mono l)))

-- ---- by the tests that the code makes

-- `1 << l` at 64 bits
pub one_shl : (l : ℕ) → l < 64 → (1 * 2 ^ l) % 2 ^ 64 ≡ 2 ^ l
one_shl l h = shl_exact {a = 1} 1 l 64 (lit< tt) (subst (λ (x : ℕ). x ≤ 64) (sym (one-add l)) h) ∙ one-mul (2 ^ l)

exact_at : (mode : Rounding) (s : Bool) (q : ℕ) → q ≡ move mode s q Ordering.lt true
exact_at Nearest s q = refl
exact_at Up true q = refl
exact_at Up false q = refl
exact_at Down true q = refl
exact_at Down false q = refl
exact_at Zero s q = refl

pub nothing_left : (mode : Rounding) (s : Bool) (q rest unit : ℕ) → rest < unit → rest ≡ 0 → q ≡ move mode s q (compare (rest * 2) unit) (eqb rest 0)
nothing_left mode s q rest unit h z =
    exact_at mode s q
    ∙ sym (ap (λ (o : Ordering). move mode s q o (eqb rest 0)) (compare_is Ordering.lt (rest * 2) unit (less rest unit h z)) ∙ ap (λ (x : ℕ). move mode s q Ordering.lt (eqb x 0)) z)
  where
    less : (r u : ℕ) → r < u → r ≡ 0 → r * 2 < u
    less r u h z = omega arith

pub near : (mode : Rounding) (s : Bool) (q : ℕ) (o p : Ordering) (x : Bool) → mode ≡ Nearest → o ≡ p → move Nearest s q p x ≡ move mode s q o x
near mode s q o p x e d = sym (ap (λ (m : Rounding). move m s q o x) e ∙ ap (λ (o : Ordering). move Nearest s q o x) d)

pub below_half : (rest unit : ℕ) → rest < unit → rest < unit - rest → compare (rest * 2) unit ≡ Ordering.lt
below_half rest unit h l = compare_is Ordering.lt (rest * 2) unit (less rest unit h l)
  where
    less : (r u : ℕ) → r < u → r < u - r → r * 2 < u
    less r u h l = omega arith

pub above_half : (rest unit : ℕ) → rest < unit → unit - rest < rest → compare (rest * 2) unit ≡ Ordering.gt
above_half rest unit h l = compare_is Ordering.gt (rest * 2) unit (more rest unit h l)
  where
    more : (r u : ℕ) → r < u → u - r < r → u < r * 2
    more r u h l = omega arith

pub at_half : (rest unit : ℕ) → rest < unit → unit - rest ≤ rest → rest ≤ unit - rest → compare (rest * 2) unit ≡ Ordering.eq
at_half rest unit h k l = compare_is Ordering.eq (rest * 2) unit (tie rest unit h k l)
  where
    tie : (r u : ℕ) → r < u → u - r ≤ r → r ≤ u - r → r * 2 ≡ u
    tie r u h k l = omega arith

-- a mode that goes away from zero at this sign
pub away : (mode : Rounding) (s : Bool) (q : ℕ) (o : Ordering) (rest : ℕ) (t : Rounding) (b : Bool) → mode ≡ t → s ≡ b → (rest ≡ 0 → ⊥) → move t b q o false ≡ suc q → q + 1 ≡ move mode s q o (eqb rest 0)
away mode s q o rest t b e d z w =
    add-one q
    ∙ sym (ap (λ (m : Rounding). move m s q o (eqb rest 0)) e ∙ ap (λ (c : Bool). move t c q o (eqb rest 0)) d ∙ ap (λ (x : Bool). move t b q o x) (ne_eqb rest 0 z) ∙ w)

-- where nothing is left, nothing is done
pub cut_exact : (mode : Rounding) (s : Bool) (m u : ℕ) → 0 < u → m % u ≡ 0 → cut_to mode s m u ≡ m / u
cut_exact mode s m u U z = sym (nothing_left mode s (m / u) (m % u) u (mod-lt m U) z)

pub shift_pos : (u sh : ℕ) → u ≡ 2 ^ sh → 0 < u
shift_pos u sh e = subst (λ (x : ℕ). 0 < x) (sym e) (pow_pos sh)

pub cut_is : (mode : Rounding) (s : Bool) (m u sh kept : ℕ) (x : Bool) → u ≡ 2 ^ sh → kept ≡ cut_to mode s m u → x ≡ eqb (m % u) 0 → IsCut mode s m (2 ^ sh) kept x
cut_is mode s m u sh kept x e p q = record {
  kept_is = p ∙ ap (cut_to mode s m) e;
  exact_is = q ∙ ap (λ (z : ℕ). eqb (m % z) 0) e;
}

-- ---- by one sum

module _ (m u : ℕ) (U : 0 < u) where
  quotient : (x c : ℕ) → c * u ≤ x → x < suc c * u → x / u ≡ c
  quotient x c h l = le_antisymm (le_of_suc-le-suc ((div-lt_iff_lt-mul U).1 l)) ((le-div_iff_mul-le U).1 h)

  stays : (lead : ℕ) → m % u + lead < u → (m + lead) / u ≡ m / u
  stays lead h = quotient (m + lead) (m / u) (sums (m / u * u) (div-add-mod' m u)).0 (lt_of_lt_of_le (sums (m / u * u) (div-add-mod' m u)).1 (le_of_eq (sym (suc-mul (m / u) u))))
    where
      sums : (p : ℕ) → p + m % u ≡ m → (p ≤ m + lead) × (m + lead < p + u)
      sums p e = (omega arith, omega arith)

  goes : (lead : ℕ) → lead < u → u ≤ m % u + lead → (m + lead) / u ≡ suc (m / u)
  goes lead l h =
      quotient (m + lead) (suc (m / u)) (le_trans (le_of_eq (suc-mul (m / u) u)) (sums (m / u * u) (div-add-mod' m u) (mod-lt m U)).0)
      (lt_of_lt_of_le (sums (m / u * u) (div-add-mod' m u) (mod-lt m U)).1 (le_of_eq (sym (suc-mul (suc (m / u)) u ∙ ap (λ (z : ℕ). z + u) (suc-mul (m / u) u)))))
    where
      sums : (p : ℕ) → p + m % u ≡ m → m % u < u → (p + u ≤ m + lead) × (m + lead < p + u + u)
      sums p e r = (omega arith, omega arith)

pub increment-lt : (mode : Rounding) (s : Bool) (m u : ℕ) → 2 ≤ u → increment mode s m u < u
increment-lt Nearest s m u h = half (m / u % 2) u h (mod-lt (m / u) (lit< tt))
  where
    half : (b u : ℕ) → 2 ≤ u → b < 2 → u / 2 - 1 + b < u
    half b u h l = omega arith
increment-lt Up true m u h = omega arith
increment-lt Up false m u h = omega arith
increment-lt Down true m u h = omega arith
increment-lt Down false m u h = omega arith
increment-lt Zero s m u h = omega arith

module _ (m h : ℕ) (H : 0 < h) where
  abbrev u : ℕ
  u = 2 * h

  abbrev r : ℕ
  r = m % u

  U : 0 < u
  U = omega arith

  by_half : (o : Ordering) → Cmp o (r * 2) u → (m + (u / 2 - 1 + m / u % 2)) / u ≡ nearest (m / u) o
  by_half Ordering.lt c = stays m u U (u / 2 - 1 + m / u % 2) (less r (m / u % 2) c (mod-lt (m / u) (lit< tt)))
    where
      less : (r b : ℕ) → r * 2 < u → b < 2 → r + (u / 2 - 1 + b) < u
      less r b c l = omega arith
  by_half Ordering.gt c = goes m u U (u / 2 - 1 + m / u % 2) (increment-lt Nearest true m u (two h H)) (more r (m / u % 2) c)
    where
      two : (h : ℕ) → 0 < h → 2 ≤ 2 * h
      two h p = omega arith

      more : (r b : ℕ) → u < r * 2 → u ≤ r + (u / 2 - 1 + b)
      more r b c = omega arith
  by_half Ordering.eq c = go (dec_lt (m / u % 2) 1)
    where
      low : (r b : ℕ) → r * 2 ≡ u → b < 1 → (r + (u / 2 - 1 + b) < u) × (b ≡ 0)
      low r b c l = (omega arith, omega arith)

      high : (r b : ℕ) → r * 2 ≡ u → 1 ≤ b → b < 2 → (u / 2 - 1 + b < u) × (u ≤ r + (u / 2 - 1 + b)) × (b ≡ 1)
      high r b c l g = (omega arith, omega arith, omega arith)

      same : (q b : ℕ) → b ≡ 0 → q ≡ q + b
      same q b e = omega arith

      next : (q b : ℕ) → b ≡ 1 → suc q ≡ q + b
      next q b e = omega arith

      go : Dec (m / u % 2 < 1) → (m + (u / 2 - 1 + m / u % 2)) / u ≡ m / u + m / u % 2
      go (yes l) = let w = low r (m / u % 2) c l in stays m u U (u / 2 - 1 + m / u % 2) w.0 ∙ same (m / u) (m / u % 2) w.1
      go (no n) =
          let w = high r (m / u % 2) c (le_of_suc-le-suc (lt_of_not-le n)) (mod-lt (m / u) (lit< tt)) in
          goes m u U (u / 2 - 1 + m / u % 2) w.0 w.1 ∙ next (m / u) (m / u % 2) w.2

  -- away from zero, unless nothing is left
  away_by_sum : (m + (u - 1)) / u ≡ cond (eqb r 0) (m / u) (suc (m / u))
  away_by_sum = go (dec_lt r 1)
    where
      none : (r u : ℕ) → 0 < u → r < 1 → (r + (u - 1) < u) × (r ≡ 0)
      none r u p l = (omega arith, omega arith)

      some : (r u : ℕ) → 0 < u → 1 ≤ r → (u - 1 < u) × (u ≤ r + (u - 1))
      some r u p l = (omega arith, omega arith)

      zero_not : (r : ℕ) → 1 ≤ r → r ≡ 0 → ⊥
      zero_not r l e = omega arith

      go : Dec (r < 1) → (m + (u - 1)) / u ≡ cond (eqb r 0) (m / u) (suc (m / u))
      go (yes l) = let w = none r u U l in stays m u U (u - 1) w.0 ∙ ap (λ (t : Bool). cond t (m / u) (suc (m / u))) (sym (eq-eqb r 0 w.1))
      go (no n) =
          let l : 1 ≤ r = le_of_suc-le-suc (lt_of_not-le n) in
          let w = some r u U l in
          goes m u U (u - 1) w.0 w.1 ∙ ap (λ (t : Bool). cond t (m / u) (suc (m / u))) (sym (ne_eqb r 0 (zero_not r l)))

  same_quotient : (m + 0) / u ≡ m / u
  same_quotient = ap (λ (z : ℕ). z / u) (add-zero m)

  pub cut_by_sum : (mode : Rounding) (s : Bool) → (m + increment mode s m u) / u ≡ cut_to mode s m u
  cut_by_sum Nearest s = by_half (compare (r * 2) u) (cmp (r * 2) u)
  cut_by_sum Up true = same_quotient
  cut_by_sum Up false = away_by_sum
  cut_by_sum Down true = away_by_sum
  cut_by_sum Down false = same_quotient
  cut_by_sum Zero s = same_quotient

pub increment_is : (mode t : Rounding) (s b : Bool) (m u : ℕ) → mode ≡ t → s ≡ b → increment t b m u ≡ increment mode s m u
increment_is mode t s b m u e d = sym (ap (λ (z : Rounding). increment z s m u) e ∙ ap (λ (z : Bool). increment t z m u) d)

module _ (u sh : ℕ) (e : u ≡ 2 ^ sh) where
  pub unit_least : 0 < sh → 2 ≤ u
  unit_least h = subst (λ (z : ℕ). 2 ≤ z) (sym e) (pow_mono {i = 1} h)

  pub unit_most : sh < 64 → u ≤ 2 ^ 63
  unit_most h = subst (λ (z : ℕ). z ≤ 2 ^ 63) (sym e) (pow_mono {j = 63} (le_of_suc-le-suc h))

  pub sum_is : (mode : Rounding) (s : Bool) (m lead : ℕ) → 0 < sh → lead ≡ increment mode s m u → (m + lead) / u ≡ cut_to mode s m u
  sum_is mode s m lead h l =
      ap (λ (z : ℕ). (m + z) / u) l
      ∙ subst (λ (z : ℕ). (m + increment mode s m z) / z ≡ cut_to mode s m z) (sym (e ∙ ap (λ (z : ℕ). 2 ^ z) (one_more sh h) ∙ pow-add 2 1 (sh - 1))) (cut_by_sum m (2 ^ (sh - 1)) (pow_pos (sh - 1)) mode s)
    where
      one_more : (n : ℕ) → 0 < n → n ≡ 1 + (n - 1)
      one_more n h = omega arith
