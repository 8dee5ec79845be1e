-- What `rounded` writes: the number of digits that are dropped times `hid`, and the kept number, no further than the mode's ceiling. Over the mode and the format.
-- Assumes nothing.
use mathlib.Core.Path.{◌≡◌, refl, sym, ap, ◌∙◌, subst}
use mathlib.Core.Logic.{◌⊎◌, inl, inr}
use mathlib.Core.Bool.{Bool, true, false, not, ◌&&◌, cond}
use Prim.Native.Nat.{ℕ, suc, ◌+◌, ◌-◌, ◌*◌, ◌/◌, ◌%◌, ◌^◌, ◌≤◌, ◌<◌, zero}
use native.Mathlib.Nat.{le_trans, le_of_eq, le_refl, lt_of_le_of_lt, eq-or-lt_of_le, not-le_of_lt, lt_of_not-le, le_of_suc-le-suc, mul_assoc, mul_comm, mul_right_comm, suc-mul, mul-pos, mul-le-mul_right, mul-le-mul_left, lt_of_mul-lt-mul_right, le_of_mul-le-mul_right, mul-lt-mul_of_pos_left, div-div-eq-div-mul, pow-succ', min-eq_left, min-eq_right, zero-mul, zero-lt-suc, div-lt_iff_lt-mul, div-le_self, div-one}
use native.Mathlib.Decide.{dec_lt}
use native.Mathlib.Omega.{arith}
use lib.Dec.{T, ltb, eqb, ltb→lt, nltb→le, leb}
use lib.Pow.{pow-add, pow_pos, pow_mono, pow-lt}
use borrow.Author.Tests.{lt-ltb, le-ltb, le-leb, lt-leb}
use lib.Ieee.{inf, Format, binary32, binary64, prec, emax, low, hid, ones, top, round, odd, to_bits}
use lib.Ieee.Exact.{HasValue, odd_sign}
use lib.Ieee.Nearest.{div_same}
use Rattle.rounding.specs.Rounding.{cut_to, largest, beyond, limit, settled, dropped, rounded, exact, over, tiny}
use Rattle.packing.specs.Pack.{ceiling, packed}
use Rattle.rounding.specs.declared.rounding.Rounding.{Rounding}
use Rattle.rounding.specs.declared.rounding.Rounding.TheVariants.{Nearest, Up, Down, Zero}
use Rattle.floats.proofs.Units.{Lead, drop_is, writes, twice_hid, hid_pos}
use Rattle.rounding.proofs.Cutting.{move_ge, move-le, cut_same, rest_same}

pred_le : (x : ℕ) → x - 1 ≤ x
pred_le x = omega arith

largest_bits : (f : Format) (s : Bool) → to_bits f (largest f s) ≡ cond s (top f) 0 + (ones f * hid f - 1)
largest_bits f s = writes f (largest f s) s (2 ^ prec f - 1) (ones f - 2) (odd_sign (prec f) s (2 ^ prec f - 1) (ones f - 2) (low f)) (below f) (inr (reaches f)) ∙ ap (λ (x : ℕ). cond s (top f) 0 + x) (is f)
  where
    below : (f : Format) → 2 ^ prec f - 1 < 2 ^ prec f
    below f = less (2 ^ prec f) (pow_pos (prec f))
      where
        less : (x : ℕ) → 0 < x → x - 1 < x
        less x h = omega arith

    reaches : (f : Format) → hid f ≤ 2 ^ prec f - 1
    reaches f = rest (2 ^ prec f) (hid f) (twice_hid f) (hid_pos f)
      where
        rest : (w h : ℕ) → w ≡ 2 * h → 0 < h → h ≤ w - 1
        rest w h e p = omega arith

    is : (f : Format) → (ones f - 2) * hid f + (2 ^ prec f - 1) ≡ ones f * hid f - 1
    is binary32 = refl
    is binary64 = refl

inf_bits : (f : Format) (s : Bool) → to_bits f (inf s) ≡ cond s (top f) 0 + ones f * hid f
unfolding to_bits
inf_bits f s = refl

beyond_bits : (mode : Rounding) (f : Format) (s : Bool) → to_bits f (beyond mode f s) ≡ cond s (top f) 0 + ceiling mode f s
beyond_bits Nearest f s = inf_bits f s
beyond_bits Up f true = largest_bits f true
beyond_bits Up f false = inf_bits f false
beyond_bits Down f true = inf_bits f true
beyond_bits Down f false = largest_bits f false
beyond_bits Zero f s = largest_bits f s

pub ceiling-le : (mode : Rounding) (f : Format) (s : Bool) → ceiling mode f s ≤ ones f * hid f
ceiling-le Nearest f s = le_refl (ones f * hid f)
ceiling-le Up f true = pred_le (ones f * hid f)
ceiling-le Up f false = le_refl (ones f * hid f)
ceiling-le Down f true = le_refl (ones f * hid f)
ceiling-le Down f false = pred_le (ones f * hid f)
ceiling-le Zero f s = pred_le (ones f * hid f)

pub ceiling_ge : (mode : Rounding) (f : Format) (s : Bool) → ones f * hid f - 1 ≤ ceiling mode f s
ceiling_ge Nearest f s = pred_le (ones f * hid f)
ceiling_ge Up f true = le_refl (ones f * hid f - 1)
ceiling_ge Up f false = pred_le (ones f * hid f)
ceiling_ge Down f true = pred_le (ones f * hid f)
ceiling_ge Down f false = le_refl (ones f * hid f - 1)
ceiling_ge Zero f s = le_refl (ones f * hid f - 1)

-- 2 ^ (low + emax + 1) smallest values are 2 ^ prec of the last dropped ones
last : (f : Format) → low f + suc (emax f) ≡ prec f + (ones f - 2)
last binary32 = refl
last binary64 = refl

last_field : (f : Format) → (ones f - 2) * hid f + 2 ^ prec f ≡ ones f * hid f
last_field binary32 = refl
last_field binary64 = refl

-- A pattern k * h + c is below K * h + 2 * h exactly where the value c * 2 ^ k is below 2 * h * 2 ^ K, c having its leading digit at h if k is not 0.
module _ (K k h w c : ℕ) (twice : w ≡ 2 * h) (some : 0 < h) (lead : (k ≡ 0) ⊎ (h ≤ c)) (most : c ≤ w) where
  next : (a b : ℕ) → a < b → a * h + h ≤ b * h
  next a b g = le_trans (le_of_eq (sym (suc-mul a h))) (mul-le-mul_right h g)

  led : K < k → h ≤ c
  led g = elim lead [ inl z ↦ absurd (none_below K k g z) | inr b ↦ b ]
    where
      none_below : (a b : ℕ) → a < b → b ≡ 0 → ⊥
      none_below a b g z = omega arith

  w_is : w * 2 ^ K ≡ h * 2 ^ suc K
  w_is = ap (λ (x : ℕ). x * 2 ^ K) twice ∙ ap (λ (x : ℕ). x * 2 ^ K) (mul_comm 2 h) ∙ mul_assoc h 2 (2 ^ K) ∙ ap (λ (x : ℕ). h * x) (sym (pow-succ' 2 K))

  fits_under : c * 2 ^ k < w * 2 ^ K → k * h + c < K * h + w
  fits_under l = go (dec_lt k K)
    where
      below : (kh Kh h c w : ℕ) → kh + h ≤ Kh → c ≤ w → w ≡ 2 * h → 0 < h → kh + c < Kh + w
      below kh Kh h c w a b e p = omega arith

      level : (kh c w : ℕ) → c < w → kh + c < kh + w
      level kh c w a = omega arith

      at : k ≡ K → k * h + c < K * h + w
      at e = subst (λ (x : ℕ). x * h + c < K * h + w) (sym e) (level (K * h) c w (lt_of_mul-lt-mul_right (2 ^ K) (subst (λ (x : ℕ). c * 2 ^ x < w * 2 ^ K) e l)))

      over : K < k → ⊥
      over g = not-le_of_lt l (le_trans (le_of_eq w_is) (le_trans (mul-le-mul_left h (pow_mono g)) (mul-le-mul_right (2 ^ k) (led g))))

      go : Dec (k < K) → k * h + c < K * h + w
      go (yes g) = below (k * h) (K * h) h c w (next k K g) most twice some
      go (no n) = elim (eq-or-lt_of_le (le_of_suc-le-suc (lt_of_not-le n))) [ inl e ↦ at (sym e) | inr g ↦ absurd (over g) ]

  fits_over : w * 2 ^ K ≤ c * 2 ^ k → K * h + w ≤ k * h + c
  fits_over l = go (dec_lt k K)
    where
      above : (kh Kh h c w : ℕ) → Kh + h ≤ kh → h ≤ c → w ≡ 2 * h → Kh + w ≤ kh + c
      above kh Kh h c w a b e = omega arith

      level : (kh c w : ℕ) → w ≤ c → kh + w ≤ kh + c
      level kh c w a = omega arith

      at : k ≡ K → K * h + w ≤ k * h + c
      at e = subst (λ (x : ℕ). K * h + w ≤ x * h + c) (sym e) (level (K * h) c w (le_of_mul-le-mul_right (subst (λ (x : ℕ). w * 2 ^ K ≤ c * 2 ^ x) e l) (pow_pos K)))

      positive : (w h : ℕ) → w ≡ 2 * h → 0 < h → 0 < w
      positive w h e p = omega arith

      short : k < K → ⊥
      short g = not-le_of_lt (lt_of_le_of_lt (mul-le-mul_right (2 ^ k) most) (mul-lt-mul_of_pos_left (pow-lt g) (positive w h twice some))) l

      go : Dec (k < K) → K * h + w ≤ k * h + c
      go (yes g) = absurd (short g)
      go (no n) = elim (eq-or-lt_of_le (le_of_suc-le-suc (lt_of_not-le n))) [ inl e ↦ at (sym e) | inr g ↦ above (k * h) (K * h) h c w (next K k g) (led g) twice ]

limit_is : (f : Format) → limit f ≡ 2 ^ prec f * 2 ^ (ones f - 2)
limit_is f = ap (λ (x : ℕ). 2 ^ x) (last f) ∙ pow-add 2 (prec f) (ones f - 2)

-- c kept digits, which may be one more than the format keeps where all are ones
odd_bits : (f : Format) (s : Bool) (c k : ℕ) → c ≤ 2 ^ prec f → Lead f k c → to_bits f (odd (suc (prec f)) s c k (low f)) ≡ cond s (top f) 0 + (k * hid f + c)
odd_bits f s c k m l = elim (eq-or-lt_of_le m) [
  | inr g ↦ writes f (odd (suc (prec f)) s c k (low f)) s c k (odd_sign (suc (prec f)) s c k (low f)) g l
  | inl e ↦
      writes f (odd (suc (prec f)) s c k (low f)) s (hid f) (suc k)
      (subst (λ (x : ℕ). HasValue (odd (suc (prec f)) s c k (low f)) s x (2 ^ low f)) (carry e) (odd_sign (suc (prec f)) s c k (low f)))
      (half (2 ^ prec f) (hid f) (twice_hid f) (hid_pos f))
      (inr (le_refl (hid f)))
      ∙ ap (λ (x : ℕ). cond s (top f) 0 + x) (ap (λ (x : ℕ). x + hid f) (suc-mul k (hid f)) ∙ two_of (k * hid f) (hid f) (2 ^ prec f) c (twice_hid f) e)
]
  where
    half : (w h : ℕ) → w ≡ 2 * h → 0 < h → h < w
    half w h e p = omega arith

    two_of : (a h w c : ℕ) → w ≡ 2 * h → c ≡ w → a + h + h ≡ a + c
    two_of a h w c e d = omega arith

    carry : c ≡ 2 ^ prec f → c * 2 ^ k ≡ hid f * 2 ^ suc k
    carry e = ap (λ (x : ℕ). x * 2 ^ k) (e ∙ twice_hid f ∙ mul_comm 2 (hid f)) ∙ mul_assoc (hid f) 2 (2 ^ k) ∙ ap (λ (x : ℕ). hid f * x) (sym (pow-succ' 2 k))

pub settled_bits : (mode : Rounding) (f : Format) (s : Bool) (c k : ℕ) → c ≤ 2 ^ prec f → Lead f k c
    → to_bits f (settled mode f s c k) ≡ packed mode f s k c
settled_bits mode f s c k m l = go (ltb (c * 2 ^ k) lim) (ltb→lt (c * 2 ^ k) lim) (nltb→le (c * 2 ^ k) lim)
  where
    lim : ℕ
    lim = limit f

    before : (x y z : ℕ) → x < y → y - 1 ≤ z → x ≤ z
    before x y z a b = omega arith

    go : (b : Bool) → (T b → c * 2 ^ k < lim) → (T (not b) → lim ≤ c * 2 ^ k)
        → to_bits f (cond b (odd (suc (prec f)) s c k (low f)) (beyond mode f s)) ≡ packed mode f s k c
    go true h n =
        odd_bits f s c k m l
        ∙ ap (λ (x : ℕ). cond s (top f) 0 + x)
        (sym (min-eq_left (before (k * hid f + c) (ones f * hid f) (ceiling mode f s)
        (subst (λ (x : ℕ). k * hid f + c < x) (last_field f) (fits_under (ones f - 2) k (hid f) (2 ^ prec f) c (twice_hid f) (hid_pos f) l m (subst (λ (x : ℕ). c * 2 ^ k < x) (limit_is f) (h tt))))
        (ceiling_ge mode f s))))
    go false h n =
        beyond_bits mode f s
        ∙ ap (λ (x : ℕ). cond s (top f) 0 + x)
        (sym (min-eq_right (le_trans (ceiling-le mode f s)
        (subst (λ (x : ℕ). x ≤ k * hid f + c) (last_field f) (fits_over (ones f - 2) k (hid f) (2 ^ prec f) c (twice_hid f) (hid_pos f) l m (subst (λ (x : ℕ). x ≤ c * 2 ^ k) (limit_is f) (n tt)))))))

-- ---- tests that agree

same_ltb : (a b c d : ℕ) → (a < b → c < d) → (c < d → a < b) → ltb a b ≡ ltb c d
same_ltb a b c d p q = go (dec_lt a b) (dec_lt c d)
  where
    go : Dec (a < b) → Dec (c < d) → ltb a b ≡ ltb c d
    go (yes l) e = lt-ltb a b l ∙ sym (lt-ltb c d (p l))
    go (no n) (yes l) = absurd (n (q l))
    go (no n) (no m) = le-ltb a b (le_of_suc-le-suc (lt_of_not-le n)) ∙ sym (le-ltb c d (le_of_suc-le-suc (lt_of_not-le m)))

same_leb : (a b c d : ℕ) → (b < a → d < c) → (a ≤ b → c ≤ d) → leb a b ≡ leb c d
same_leb a b c d p q = go (dec_lt b a)
  where
    go : Dec (b < a) → leb a b ≡ leb c d
    go (yes l) = lt-leb a b l ∙ sym (lt-leb c d (p l))
    go (no n) = let l : a ≤ b = le_of_suc-le-suc (lt_of_not-le n) in le-leb a b l ∙ sym (le-leb c d (q l))

factor_pos : (a b : ℕ) → 0 < a * b → 0 < a
factor_pos zero b h = absurd (not-le_of_lt h (le_of_eq (zero-mul b)))
factor_pos (suc a) b h = zero-lt-suc a

-- a pattern is too large where its value is
over_pattern : (f : Format) (k c : ℕ) → c ≤ 2 ^ prec f → Lead f k c → leb (limit f) (c * 2 ^ k) ≡ leb (ones f * hid f) (k * hid f + c)
over_pattern f k c m l =
    same_leb (limit f) (c * 2 ^ k) (ones f * hid f) (k * hid f + c)
    (λ (h : c * 2 ^ k < limit f). subst (λ (x : ℕ). k * hid f + c < x) (last_field f) (fits_under (ones f - 2) k (hid f) (2 ^ prec f) c (twice_hid f) (hid_pos f) l m (subst (λ (x : ℕ). c * 2 ^ k < x) (limit_is f) h)))
    (λ (h : limit f ≤ c * 2 ^ k). subst (λ (x : ℕ). x ≤ k * hid f + c) (last_field f) (fits_over (ones f - 2) k (hid f) (2 ^ prec f) c (twice_hid f) (hid_pos f) l m (subst (λ (x : ℕ). x ≤ c * 2 ^ k) (limit_is f) h)))

-- ---- a fraction num / den whose size in the format's smallest values is m / u, times 2 ^ k

module _ (mode : Rounding) (f : Format) (s : Bool) (num den k m u : ℕ) (D : 0 < den) (U : 0 < u) (e : num * 2 ^ low f * u ≡ m * (den * 2 ^ k)) (small : m / u < 2 ^ prec f) (lead : Lead f k (m / u)) where
  abbrev n : ℕ
  n = num * 2 ^ low f

  DK : 0 < den * 2 ^ k
  DK = mul-pos D (pow_pos k)

  whole : n / den / 2 ^ k ≡ m / u
  whole = div-div-eq-div-mul n den (2 ^ k) ∙ div_same n (den * 2 ^ k) m u DK U e

  drop : dropped f (n / den) ≡ k
  drop = drop_is f (n / den) k (subst (λ (x : ℕ). x < 2 ^ prec f) (sym whole) small) (subst (λ (x : ℕ). Lead f k x) (sym whole) lead)

  few : cut_to mode s m u ≤ 2 ^ prec f
  few = le_trans (move-le mode s (m / u) _ _) small

  leads : Lead f k (cut_to mode s m u)
  leads = elim lead [ inl z ↦ inl z | inr h ↦ inr (le_trans h (move_ge mode s (m / u) _ _)) ]

  pub rounded_bits : to_bits f (rounded mode f s num den) ≡ packed mode f s k (cut_to mode s m u)
  unfolding rounded
  rounded_bits =
      ap (λ (x : ℕ). to_bits f (settled mode f s (cut_to mode s n (den * 2 ^ x)) x)) drop
      ∙ ap (λ (x : ℕ). to_bits f (settled mode f s x k)) (cut_same mode s n (den * 2 ^ k) m u DK U e)
      ∙ settled_bits mode f s (cut_to mode s m u) k few leads

  pub exact_is : exact f num den ≡ eqb (m % u) 0
  unfolding exact
  exact_is = ap (λ (x : ℕ). eqb (n % (den * 2 ^ x)) 0) drop ∙ rest_same n (den * 2 ^ k) m u DK U e

  pub over_is : over mode f s num den ≡ leb (ones f * hid f) (k * hid f + cut_to mode s m u)
  unfolding over
  over_is =
      ap (λ (x : ℕ). leb (limit f) (cut_to mode s n (den * 2 ^ x) * 2 ^ x)) drop
      ∙ ap (λ (x : ℕ). leb (limit f) (x * 2 ^ k)) (cut_same mode s n (den * 2 ^ k) m u DK U e)
      ∙ over_pattern f k (cut_to mode s m u) few leads

  pub tiny_is : tiny f num den ≡ (ltb 0 m && ltb (m / u) (hid f))
  unfolding tiny
  tiny_is = ap (λ (t : Bool). t && ltb n (hid f * den)) some ∙ ap (λ (t : Bool). ltb 0 m && t) below
    where
      some : ltb 0 num ≡ ltb 0 m
      some =
          same_ltb 0 num 0 m
          (λ (h : 0 < num). factor_pos m (den * 2 ^ k) (subst (λ (x : ℕ). 0 < x) e (mul-pos (mul-pos h (pow_pos (low f))) U)))
          (λ (h : 0 < m). factor_pos num (2 ^ low f) (factor_pos (num * 2 ^ low f) u (subst (λ (x : ℕ). 0 < x) (sym e) (mul-pos h DK))))

      back : Lead f k (m / u) → m / u < hid f → n / den < hid f
      back (inl z) h = subst (λ (x : ℕ). x < hid f) (sym whole ∙ ap (λ (x : ℕ). n / den / 2 ^ x) z ∙ div-one (n / den)) h
      back (inr g) h = absurd (not-le_of_lt h g)

      below : ltb n (hid f * den) ≡ ltb (m / u) (hid f)
      below =
          same_ltb n (hid f * den) (m / u) (hid f)
          (λ (h : n < hid f * den). lt_of_le_of_lt (le_trans (le_of_eq (sym whole)) (div-le_self (n / den) (2 ^ k))) ((div-lt_iff_lt-mul D).1 h))
          (λ (h : m / u < hid f). (div-lt_iff_lt-mul D).0 (back lead h))

-- at `Nearest` it is the logic's own rounding
pub rounded_nearest : (f : Format) (s : Bool) (num den : ℕ) → rounded Nearest f s num den ≡ round f s num den
unfolding rounded round
rounded_nearest f s num den = refl

-- ---- equal fractions round alike

module _ (mode : Rounding) (f : Format) (s : Bool) (a b c d : ℕ) (B : 0 < b) (D : 0 < d) (e : a * d ≡ c * b) where
  abbrev l : ℕ
  l = 2 ^ low f

  abbrev j : ℕ
  j = dropped f (c * l / d)

  scaled : a * l * d ≡ c * l * b
  scaled = mul_right_comm a l d ∙ ap (λ (z : ℕ). z * l) e ∙ mul_right_comm c b l

  same_whole : a * l / b ≡ c * l / d
  same_whole = div_same (a * l) b (c * l) d B D scaled

  same_drop : dropped f (a * l / b) ≡ j
  same_drop = ap (dropped f) same_whole

  cut_down : a * l * (d * 2 ^ j) ≡ c * l * (b * 2 ^ j)
  cut_down = sym (mul_assoc (a * l) d (2 ^ j)) ∙ ap (λ (z : ℕ). z * 2 ^ j) scaled ∙ mul_assoc (c * l) b (2 ^ j)

  same_cut : cut_to mode s (a * l) (b * 2 ^ j) ≡ cut_to mode s (c * l) (d * 2 ^ j)
  same_cut = cut_same mode s (a * l) (b * 2 ^ j) (c * l) (d * 2 ^ j) (mul-pos B (pow_pos j)) (mul-pos D (pow_pos j)) cut_down

  pub rounded_same : rounded mode f s a b ≡ rounded mode f s c d
  unfolding rounded
  rounded_same = ap (λ (z : ℕ). settled mode f s (cut_to mode s (a * l) (b * 2 ^ z)) z) same_drop ∙ ap (λ (z : ℕ). settled mode f s z j) same_cut

  pub exact_same : exact f a b ≡ exact f c d
  unfolding exact
  exact_same = ap (λ (z : ℕ). eqb (a * l % (b * 2 ^ z)) 0) same_drop ∙ rest_same (a * l) (b * 2 ^ j) (c * l) (d * 2 ^ j) (mul-pos B (pow_pos j)) (mul-pos D (pow_pos j)) cut_down

  pub over_same : over mode f s a b ≡ over mode f s c d
  unfolding over
  over_same = ap (λ (z : ℕ). leb (limit f) (cut_to mode s (a * l) (b * 2 ^ z) * 2 ^ z)) same_drop ∙ ap (λ (z : ℕ). leb (limit f) (z * 2 ^ j)) same_cut

  pub tiny_same : tiny f a b ≡ tiny f c d
  unfolding tiny
  tiny_same = ap (λ (t : Bool). t && ltb (a * l) (hid f * b)) some ∙ ap (λ (t : Bool). ltb 0 c && t) below
    where
      some : ltb 0 a ≡ ltb 0 c
      some =
          same_ltb 0 a 0 c (λ (h : 0 < a). factor_pos c b (subst (λ (x : ℕ). 0 < x) e (mul-pos h D)))
          (λ (h : 0 < c). factor_pos a d (subst (λ (x : ℕ). 0 < x) (sym e) (mul-pos h B)))

      below : ltb (a * l) (hid f * b) ≡ ltb (c * l) (hid f * d)
      below =
          same_ltb (a * l) (hid f * b) (c * l) (hid f * d)
          (λ (h : a * l < hid f * b). (div-lt_iff_lt-mul D).0 (subst (λ (x : ℕ). x < hid f) same_whole ((div-lt_iff_lt-mul B).1 h)))
          (λ (h : c * l < hid f * d). (div-lt_iff_lt-mul B).0 (subst (λ (x : ℕ). x < hid f) (sym same_whole) ((div-lt_iff_lt-mul D).1 h)))
