-- What is rounded is correctly rounded: of a real number that compares with halves of the format's smallest value by L and U, and of a fraction. Over the
-- mode and the format. Assumes nothing.
use mathlib.Core.Path.{◌≡◌, refl, sym, ap, ◌∙◌, subst}
use mathlib.Core.Logic.{◌⊎◌, inl, inr}
use mathlib.Core.Bool.{Bool, true, false, cond}
use Prim.Native.Nat.{ℕ, suc, ◌+◌, ◌-◌, ◌*◌, ◌/◌, ◌%◌, ◌^◌, ◌≤◌, ◌<◌}
use native.Mathlib.Nat.{le_trans, le_of_eq, le_of_lt, lt_of_le_of_lt, le_antisymm, eq-or-lt_of_le, not-le_of_lt, lt_of_not-le, le_of_suc-le-suc, mul_assoc, one-mul, mul-pos, mul-le-mul_right, le_of_mul-le-mul_right, suc-mul, div-mul-le_self, div-div-eq-div-mul}
use native.Mathlib.Decide.{dec_lt}
use native.Mathlib.Omega.{arith}
use lib.Dec.{T, ltb, ltb→lt, lit<}
use lib.Pow.{pow-add, pow_pos, pow_mono, pow-lt}
use borrow.Author.Tests.{lt-ltb, le-ltb}
use lib.Ieee.{Float, Format, binary32, binary64, prec, low, odd, hid, fits, of_bits, to_bits}
use lib.Ieee.Bits.{of_bits-to_bits}
use lib.Ieee.Fits.{odd-fits, inf-fits, kept-lt}
use lib.Ieee.Exact.{HasValue, odd_sign}
use Rattle.rounding.specs.Rounding.{cut_to, largest, limit, beyond, settled, dropped, rounded, Near, Floor, Ceil, Names}
use Rattle.packing.specs.Pack.{packed}
use Rattle.correct_rounding.specs.Rounded.{Real, ratio, AtMost, AtLeast, Each, NearestEven, LargestNotAbove, LeastNotBelow, Named, CorrectlyRounded}
use Rattle.rounding.specs.declared.rounding.Rounding.{Rounding}
use Rattle.rounding.specs.declared.rounding.Rounding.TheVariants.{Nearest, Up, Down, Zero}
use Rattle.floats.proofs.Units.{Lead, prec_pos}
use Rattle.rounding.proofs.Cutting.{move_ge, move-le}
use Rattle.packing.proofs.Written.{settled_bits}
use Rattle.packing.proofs.Formed.{Lead-digit}
use Rattle.rounding.proofs.Sight.{cut_Names}

-- ---- c * 2 ^ k against every value. L h: h halves are at most the number; U h: at least

module _ (f : Format) (L U : ℕ → Type 0) (lower : (a b : ℕ) → a ≤ b → L b → L a) (upper : (a b : ℕ) → a ≤ b → U a → U b) (order : (a b : ℕ) → L a → U b → a ≤ b) (c k : ℕ) (lead : (k ≡ 0) ⊎ L (2 * (hid f * 2 ^ k))) where
  abbrev u : ℕ
  u = 2 ^ k

  abbrev r : ℕ
  r = c * u

  abbrev w : ℕ
  w = hid f * u

  -- a value is a multiple of 2 ^ k, or has fewer digits before it and lies at or below the smallest of as many digits
  place : (q j : ℕ) → q < 2 ^ prec f → ((p : ℕ) × (q * 2 ^ j ≡ p * u)) ⊎ ((q * 2 ^ j ≤ w) × L (2 * w))
  place q j h = go (dec_lt j k)
    where
      fewer : (p j k : ℕ) → 0 < p → j < k → p + j ≤ p - 1 + k
      fewer p j k P l = omega arith

      some : (j k : ℕ) → j < k → k ≡ 0 → ⊥
      some j k l z = omega arith

      join : (j k : ℕ) → (j < k → ⊥) → j - k + k ≡ j
      join j k m = omega arith

      led : j < k → (k ≡ 0) ⊎ L (2 * w) → L (2 * w)
      led l (inl z) = absurd (some j k l z)
      led l (inr g) = g

      go : Dec (j < k) → ((p : ℕ) × (q * 2 ^ j ≡ p * u)) ⊎ ((q * 2 ^ j ≤ w) × L (2 * w))
      go (yes l) = inr (
        le_trans (mul-le-mul_right (2 ^ j) (le_of_lt h))
            (le_trans (le_of_eq (sym (pow-add 2 (prec f) j))) (le_trans (pow_mono (fewer (prec f) j k (prec_pos f) l)) (le_of_eq (pow-add 2 (prec f - 1) k)))),
        led l lead,
      )
      go (no m) = inl (q * 2 ^ (j - k), ap (λ (x : ℕ). q * x) (ap (λ (x : ℕ). 2 ^ x) (sym (join j k m)) ∙ pow-add 2 (j - k) k) ∙ sym (mul_assoc q (2 ^ (j - k)) u))

  -- multiples differ by 2 ^ k
  next : (a b : ℕ) → a * u < b * u → a * u + u ≤ b * u
  next a b l = le_trans (le_of_eq (sym (suc-mul a u))) (mul-le-mul_right u (lt_of_not-le (λ (g : b ≤ a). not-le_of_lt l (mul-le-mul_right u g))))

  down : (q j : ℕ) → q < 2 ^ prec f → q * 2 ^ j < r → (q * 2 ^ j + u ≤ r) ⊎ ((r ≤ w) × L (2 * w))
  down q j h l = elim (place q j h) [
    | inl (p, e) ↦ inl (subst (λ (v : ℕ). v + u ≤ r) (sym e) (next p c (subst (λ (v : ℕ). v < r) e l)))
    | inr (g, m) ↦ by g m (dec_lt w r)
  ]
    where
      less : (v w u r : ℕ) → v ≤ w → w + u ≤ r → v + u ≤ r
      less v w u r a b = omega arith

      by : q * 2 ^ j ≤ w → L (2 * w) → Dec (w < r) → (q * 2 ^ j + u ≤ r) ⊎ ((r ≤ w) × L (2 * w))
      by g m (yes d) = inl (less (q * 2 ^ j) w u r g (next (hid f) c d))
      by g m (no n) = inr (le_of_suc-le-suc (lt_of_not-le n), m)

  up : (q j : ℕ) → q < 2 ^ prec f → r < q * 2 ^ j → (r + u ≤ q * 2 ^ j) ⊎ ((q * 2 ^ j ≤ w) × (r + u ≤ w) × L (2 * w))
  up q j h l = elim (place q j h) [
    | inl (p, e) ↦ inl (subst (λ (v : ℕ). r + u ≤ v) (sym e) (next c p (subst (λ (v : ℕ). r < v) e l)))
    | inr (g, m) ↦ inr (g, next c (hid f) (less (q * 2 ^ j) w r l g), m)
  ]
    where
      less : (v w r : ℕ) → r < v → v ≤ w → r < w
      less v w r a b = omega arith

  between : (v r w u : ℕ) → 2 * w ≤ v + r → v < r → r ≤ w → ⊥
  between v r w u a b d = omega arith

  -- nearest
  module _ (nl : (h : ℕ) → h + u ≤ 2 * r → L h) (nh : U (2 * r + u)) (tl : (h : ℕ) → h + u ≤ 2 * r → U h → c % 2 ≡ 0) (th : L (2 * r + u) → c % 2 ≡ 0) where
    pub from_below : Each f (λ v. v < r → L (v + r))
    from_below q j h l = elim (down q j h l) [
      | inl a ↦ nl (q * 2 ^ j + r) (sum (q * 2 ^ j) r u a)
      | inr (b, m) ↦ lower (q * 2 ^ j + r) (2 * w) (both (q * 2 ^ j) r w l b) m
    ]
      where
        sum : (v r u : ℕ) → v + u ≤ r → v + r + u ≤ 2 * r
        sum v r u a = omega arith

        both : (v r w : ℕ) → v < r → r ≤ w → v + r ≤ 2 * w
        both v r w a b = omega arith

    pub from_above : Each f (λ v. r < v → U (v + r))
    from_above q j h l = elim (up q j h l) [
      | inl a ↦ upper (2 * r + u) (q * 2 ^ j + r) (sum (q * 2 ^ j) r u a) nh
      | inr (g, b, m) ↦ absurd (none (q * 2 ^ j) r w u (order (2 * w) (2 * r + u) m nh) b g l)
    ]
      where
        sum : (v r u : ℕ) → r + u ≤ v → 2 * r + u ≤ v + r
        sum v r u a = omega arith

        none : (v r w u : ℕ) → 2 * w ≤ 2 * r + u → r + u ≤ w → v ≤ w → r < v → ⊥
        none v r w u a b d e = omega arith

    pub evens : Each f (λ v. (v ≡ r → ⊥) → L (v + r) → U (v + r) → c % 2 ≡ 0)
    evens q j h n x y = go (dec_lt (q * 2 ^ j) r) (dec_lt r (q * 2 ^ j))
      where
        sum : (v r u : ℕ) → v + u ≤ r → v + r + u ≤ 2 * r
        sum v r u a = omega arith

        sum_up : (v r u : ℕ) → r + u ≤ v → 2 * r + u ≤ v + r
        sum_up v r u a = omega arith

        none : (v r w u : ℕ) → 2 * w ≤ v + r → v ≤ w → r < v → ⊥
        none v r w u a b d = omega arith

        same : (v r : ℕ) → (v < r → ⊥) → (r < v → ⊥) → v ≡ r
        same v r a b = omega arith

        go : Dec (q * 2 ^ j < r) → Dec (r < q * 2 ^ j) → c % 2 ≡ 0
        go (yes l) d = elim (down q j h l) [
          | inl a ↦ tl (q * 2 ^ j + r) (sum (q * 2 ^ j) r u a) y
          | inr (b, m) ↦ absurd (between (q * 2 ^ j) r w u (order (2 * w) (q * 2 ^ j + r) m y) l b)
        ]
        go (no a) (yes l) = elim (up q j h l) [
          | inl a ↦ th (lower (2 * r + u) (q * 2 ^ j + r) (sum_up (q * 2 ^ j) r u a) x)
          | inr (g, b, m) ↦ absurd (none (q * 2 ^ j) r w u (order (2 * w) (q * 2 ^ j + r) m y) g l)
        ]
        go (no a) (no b) = absurd (n (same (q * 2 ^ j) r a b))

  -- the largest that is not above
  pub not_more : (L (2 * r + 2 * u) → ⊥) → Each f (λ v. L (2 * v) → v ≤ r)
  not_more fh q j h x = go (dec_lt r (q * 2 ^ j))
    where
      twice : (a b u : ℕ) → a + u ≤ b → 2 * a + 2 * u ≤ 2 * b
      twice a b u h = omega arith

      go : Dec (r < q * 2 ^ j) → q * 2 ^ j ≤ r
      go (no n) = le_of_suc-le-suc (lt_of_not-le n)
      go (yes l) = elim (up q j h l) [
        | inl a ↦ absurd (fh (lower (2 * r + 2 * u) (2 * (q * 2 ^ j)) (twice r (q * 2 ^ j) u a) x))
        | inr (g, b, m) ↦ absurd (fh (lower (2 * r + 2 * u) (2 * w) (twice r w u b) m))
      ]

  -- the least that is not below
  pub not_less : ((h : ℕ) → h + 2 * u ≤ 2 * r → U h → ⊥) → Each f (λ v. U (2 * v) → r ≤ v)
  not_less cl q j h y = go (dec_lt (q * 2 ^ j) r)
    where
      twice : (a b u : ℕ) → a + u ≤ b → 2 * a + 2 * u ≤ 2 * b
      twice a b u h = omega arith

      none : (v r w : ℕ) → 2 * w ≤ 2 * v → v < r → r ≤ w → ⊥
      none v r w a b d = omega arith

      go : Dec (q * 2 ^ j < r) → r ≤ q * 2 ^ j
      go (no n) = le_of_suc-le-suc (lt_of_not-le n)
      go (yes l) = elim (down q j h l) [
        | inl a ↦ absurd (cl (2 * (q * 2 ^ j)) (twice (q * 2 ^ j) r u a) y)
        | inr (b, m) ↦ absurd (none (q * 2 ^ j) r w (order (2 * w) (2 * (q * 2 ^ j)) m y) l b)
      ]

-- ---- the word of c * 2 ^ k smallest values

even_word : (f : Format) (s : Bool) (k c : ℕ) → c % 2 ≡ 0 → packed Nearest f s k c % 2 ≡ 0
even_word binary32 true k c h = omega arith
even_word binary32 false k c h = omega arith
even_word binary64 true k c h = omega arith
even_word binary64 false k c h = omega arith

largest-fits : (f : Format) (s : Bool) → T (fits f (largest f s))
largest-fits binary32 s = odd-fits binary32 24 s (2 ^ 24 - 1) 253 (lit< tt) (le_of_lt (lit< tt)) (lit< tt)
largest-fits binary64 s = odd-fits binary64 53 s (2 ^ 53 - 1) 2045 (lit< tt) (le_of_lt (lit< tt)) (lit< tt)

beyond-fits : (mode : Rounding) (f : Format) (s : Bool) → T (fits f (beyond mode f s))
beyond-fits Nearest f s = inf-fits f s
beyond-fits Up f true = largest-fits f true
beyond-fits Up f false = inf-fits f false
beyond-fits Down f true = inf-fits f true
beyond-fits Down f false = largest-fits f false
beyond-fits Zero f s = largest-fits f s

module _ (mode : Rounding) (f : Format) (s : Bool) (c k : ℕ) (most : c ≤ 2 ^ prec f) where
  abbrev word : ℕ
  word = to_bits f (settled mode f s c k)

  reads : of_bits f word ≡ settled mode f s c k
  reads = of_bits-to_bits f (settled mode f s c k) (go (ltb (c * 2 ^ k) (limit f)) (ltb→lt (c * 2 ^ k) (limit f)))
    where
      go : (b : Bool) → (T b → c * 2 ^ k < limit f) → T (fits f (cond b (odd (suc (prec f)) s c k (low f)) (beyond mode f s)))
      go true h = odd-fits f (suc (prec f)) s c k (lt_of_le_of_lt most (pow-lt (more (prec f)))) most (h tt)
        where
          more : (x : ℕ) → x < suc x
          more x = omega arith
      go false h = beyond-fits mode f s

  few : (q : ℕ) × (j : ℕ) × (q < 2 ^ prec f) × (c * 2 ^ k ≡ q * 2 ^ j)
  few = elim (eq-or-lt_of_le most) [
    | inl e ↦ (1, prec f + k, pow-lt (prec_pos f), ap (λ (x : ℕ). x * 2 ^ k) e ∙ sym (pow-add 2 (prec f) k) ∙ sym (one-mul (2 ^ (prec f + k))))
    | inr l ↦ (c, k, l, refl)
  ]

  -- the word is correctly rounded where the mode names that many smallest values
  pub settled_correct : (x : Real) → Named mode f s x (c * 2 ^ k) word → CorrectlyRounded mode f s x word
  settled_correct x h =
      record {
        size = c * 2 ^ k;
        digits = few;
        named = h;
        finite = λ (l : c * 2 ^ k < limit f).
            subst (λ (v : Float). HasValue v s (c * 2 ^ k) (2 ^ low f)) (sym (reads ∙ ap (λ (b : Bool). cond b (odd (suc (prec f)) s c k (low f)) (beyond mode f s)) (lt-ltb (c * 2 ^ k) (limit f) l)))
            (odd_sign (suc (prec f)) s c k (low f));
        overflow = λ (l : limit f ≤ c * 2 ^ k).
            reads ∙ ap (λ (b : Bool). cond b (odd (suc (prec f)) s c k (low f)) (beyond mode f s)) (le-ltb (c * 2 ^ k) (limit f) l);
      }

-- where c is even, so is the word
pub settled_even : (f : Format) (s : Bool) (c k : ℕ) → c ≤ 2 ^ prec f → Lead f k c → c % 2 ≡ 0 → to_bits f (settled Nearest f s c k) % 2 ≡ 0
settled_even f s c k m l e = ap (λ (x : ℕ). x % 2) (settled_bits Nearest f s c k m l) ∙ even_word f s k c e

-- ---- a fraction: what the mode's whole number says of halves

module _ (n den u c : ℕ) where
  Near-low : Near n (den * u) c → (h : ℕ) → h + u ≤ 2 * (c * u) → h * den ≤ 2 * n
  Near-low e h l = let g = mul-le-mul_right den l in let d = e.1 in omega arith

  Near-high : Near n (den * u) c → 2 * n ≤ (2 * (c * u) + u) * den
  Near-high e = let d = e.0 in omega arith

  tie_low : Near n (den * u) c → (h : ℕ) → h + u ≤ 2 * (c * u) → 2 * n ≤ h * den → c % 2 ≡ 0
  tie_low e h l y = let g = mul-le-mul_right den l in e.3 (le_antisymm e.1 (less g y))
    where
      less : (h + u) * den ≤ 2 * (c * u) * den → 2 * n ≤ h * den → 2 * n + den * u ≤ 2 * c * (den * u)
      less g y = omega arith

  tie_high : Near n (den * u) c → (2 * (c * u) + u) * den ≤ 2 * n → c % 2 ≡ 0
  tie_high e x = e.2 (le_antisymm e.0 (more x))
    where
      more : (2 * (c * u) + u) * den ≤ 2 * n → (2 * c + 1) * (den * u) ≤ 2 * n
      more x = omega arith

  Floor-low : Floor n (den * u) c → 2 * (c * u) * den ≤ 2 * n
  Floor-low e = let d = e.0 in omega arith

  Floor-high : Floor n (den * u) c → (2 * (c * u) + 2 * u) * den ≤ 2 * n → ⊥
  Floor-high e x = let d = e.1 in omega arith

  Ceil-high : Ceil n (den * u) c → 2 * n ≤ 2 * (c * u) * den
  Ceil-high e = let d = e.0 in omega arith

  Ceil-low : Ceil n (den * u) c → (h : ℕ) → h + 2 * u ≤ 2 * (c * u) → 2 * n ≤ h * den → ⊥
  Ceil-low e h l y = let g = mul-le-mul_right den l in let d = e.1 in omega arith

module _ (mode : Rounding) (f : Format) (s : Bool) (num den : ℕ) (D : 0 < den) where
  abbrev n : ℕ
  n = num * 2 ^ low f

  abbrev drops : ℕ
  drops = dropped f (n / den)

  abbrev cuts : ℕ
  cuts = cut_to mode s n (den * 2 ^ drops)

  abbrev exact : Real
  exact = ratio num den

  lower : (a b : ℕ) → a ≤ b → AtMost f b exact → AtMost f a exact
  lower a b h g = le_trans (mul-le-mul_right den h) g

  upper : (a b : ℕ) → a ≤ b → AtLeast f a exact → AtLeast f b exact
  upper a b h g = le_trans g (mul-le-mul_right den h)

  order : (a b : ℕ) → AtMost f a exact → AtLeast f b exact → a ≤ b
  order a b x y = le_of_mul-le-mul_right (le_trans x y) D

  digit : Lead f drops (n / den / 2 ^ drops)
  digit = Lead-digit f (n / den)

  lead : (drops ≡ 0) ⊎ AtMost f (2 * (hid f * 2 ^ drops)) exact
  lead = elim digit [
    | inl z ↦ inl z
    | inr g ↦ inr (twice (hid f * 2 ^ drops) (mul-le-mul_right den (le_trans (mul-le-mul_right (2 ^ drops) g) (div-mul-le_self (n / den) (2 ^ drops)))) (div-mul-le_self n den))
  ]
    where
      twice : (w : ℕ) → w * den ≤ n / den * den → n / den * den ≤ n → 2 * w * den ≤ 2 * n
      twice w a b = omega arith

  whole : n / den / 2 ^ drops ≡ n / (den * 2 ^ drops)
  whole = div-div-eq-div-mul n den (2 ^ drops)

  most : cuts ≤ 2 ^ prec f
  most = le_trans (move-le mode s (n / (den * 2 ^ drops)) _ _) (subst (λ (x : ℕ). x < 2 ^ prec f) whole (kept-lt (prec f) (n / den)))

  leads : Lead f drops cuts
  leads = elim digit [ inl z ↦ inl z | inr g ↦ inr (le_trans (subst (λ (x : ℕ). hid f ≤ x) whole g) (move_ge mode s (n / (den * 2 ^ drops)) _ _)) ]

  names : Names mode s n (den * 2 ^ drops) cuts
  names = cut_Names n (den * 2 ^ drops) (mul-pos D (pow_pos drops)) mode s

nearest_even : (f : Format) (s : Bool) (num den : ℕ) (D : 0 < den) → NearestEven f (ratio num den) (cuts Nearest f s num den D * 2 ^ drops Nearest f s num den D) (to_bits f (settled Nearest f s (cuts Nearest f s num den D) (drops Nearest f s num den D)))
nearest_even f s num den D =
    let mode = Nearest in
    let k = drops mode f s num den D in
    let c = cuts mode f s num den D in
    let e = names mode f s num den D in
    let a = num * 2 ^ low f in
    let nl = Near-low a den (2 ^ k) c e in
    let nh = Near-high a den (2 ^ k) c e in
    let tl = tie_low a den (2 ^ k) c e in
    let th = tie_high a den (2 ^ k) c e in
    let L : ℕ → Type 0 = λ h. AtMost f h (ratio num den) in
    let U : ℕ → Type 0 = λ h. AtLeast f h (ratio num den) in
    let lo = lower mode f s num den D in
    let hi = upper mode f s num den D in
    let or = order mode f s num den D in
    let le = lead mode f s num den D in
    record {
      from_below = from_below f L U lo hi or c k le nl nh tl th;
      from_above = from_above f L U lo hi or c k le nl nh tl th;
      even = λ q j h m x y. settled_even f s c k (most mode f s num den D) (leads mode f s num den D) (evens f L U lo hi or c k le nl nh tl th q j h m x y);
    }

module _ (mode : Rounding) (f : Format) (s : Bool) (num den : ℕ) (D : 0 < den) where
  abbrev size : ℕ
  size = cuts mode f s num den D * 2 ^ drops mode f s num den D

  not_above : Floor (num * 2 ^ low f) (den * 2 ^ drops mode f s num den D) (cuts mode f s num den D) → LargestNotAbove f (ratio num den) size
  not_above e =
      let k = drops mode f s num den D in
      let c = cuts mode f s num den D in
      record {
        not_above = Floor-low (num * 2 ^ low f) den (2 ^ k) c e;
        largest = not_more f (λ h. AtMost f h (ratio num den)) (λ h. AtLeast f h (ratio num den)) (lower mode f s num den D) (upper mode f s num den D) (order mode f s num den D) c k (lead mode f s num den D) (Floor-high (num * 2 ^ low f) den (2 ^ k) c e);
      }

  not_below : Ceil (num * 2 ^ low f) (den * 2 ^ drops mode f s num den D) (cuts mode f s num den D) → LeastNotBelow f (ratio num den) size
  not_below e =
      let k = drops mode f s num den D in
      let c = cuts mode f s num den D in
      record {
        not_below = Ceil-high (num * 2 ^ low f) den (2 ^ k) c e;
        least = not_less f (λ h. AtMost f h (ratio num den)) (λ h. AtLeast f h (ratio num den)) (lower mode f s num den D) (upper mode f s num den D) (order mode f s num den D) c k (lead mode f s num den D) (Ceil-low (num * 2 ^ low f) den (2 ^ k) c e);
      }

named : (mode : Rounding) (f : Format) (s : Bool) (num den : ℕ) (D : 0 < den)
    → Named mode f s (ratio num den) (cuts mode f s num den D * 2 ^ drops mode f s num den D) (to_bits f (settled mode f s (cuts mode f s num den D) (drops mode f s num den D)))
named Nearest f s num den D = nearest_even f s num den D
named Up f false num den D = not_below Up f false num den D (names Up f false num den D)
named Up f true num den D = not_above Up f true num den D (names Up f true num den D)
named Down f false num den D = not_above Down f false num den D (names Down f false num den D)
named Down f true num den D = not_below Down f true num den D (names Down f true num den D)
named Zero f s num den D = not_above Zero f s num den D (names Zero f s num den D)

-- a fraction is correctly rounded, in every mode
pub rounded_correct : (mode : Rounding) (f : Format) (s : Bool) (num den : ℕ) → 0 < den → CorrectlyRounded mode f s (ratio num den) (to_bits f (rounded mode f s num den))
unfolding rounded
rounded_correct mode f s num den D =
    settled_correct mode f s (cuts mode f s num den D) (drops mode f s num den D) (most mode f s num den D) (ratio num den) (named mode f s num den D)
