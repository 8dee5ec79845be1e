-- Roots by an estimate that is checked: what the check tells. Assumes nothing.
use mathlib.Core.Path.{◌≡◌, refl, sym, ap, ◌∙◌, subst}
use mathlib.Core.Logic.{◌⊎◌, inl, inr}
use mathlib.Core.Bool.{Bool, true, false, ◌&&◌, cond}
use Prim.Native.Nat.{Ordering}
use Prim.Native.Nat.{ℕ, suc, ◌+◌, ◌-◌, ◌*◌, ◌/◌, ◌%◌, ◌^◌, ◌≤◌, ◌<◌}
use native.Mathlib.Nat.{le_refl, le_trans, mod-le, lt_trans, le_of_lt, lt_of_le_of_lt, lt_of_not-le, add_comm, le_of_suc-le-suc, mul-le-mul, mul-lt-mul_of_pos_right}
use native.Mathlib.Decide.{dec_le, dec_lt}
use native.Mathlib.Omega.{arith}
use native.Mathlib.Numerals.{add-one}
use lib.Dec.{leb, ltb, eqb, lit<}
use lib.Ieee.{Format, binary32, binary64, prec, low, hid, ones, top, of_bits, nan_bits, nearest}
use borrow.Author.Tests.{lt-ltb, le-ltb, ltb-true, leb-true, eq-eqb, ne_eqb}
use Rattle.rounding.specs.Rounding.{rounding_of}
use Rattle.rounding.specs.declared.rounding.Rounding.{Rounding}
use Rattle.rounding.specs.declared.rounding.Rounding.TheVariants.{Nearest, Up, Down, Zero}
use Rattle.exceptions.specs.Exceptions.{inexact}
use Rattle.roots.specs.Root.{isqrt, root_cut, base, radicand, scaled, IsRoot, IsRooted, IsSqrt, IsEstimate}
use Rattle.nans.proofs.Choosing.{no_nan}
use Rattle.rounding.proofs.Order.{compare_is}
use Rattle.rounding.proofs.Cutting.{mode_up, mode_down, mode-zero}
use Rattle.roots.proofs.RootDigits.{rounds, steps_exact}
use Rattle.roots.proofs.Sqrt.{rise, shift, root_mid}

-- ---- the nearest whole number, by what is left of q's square

module _ (n q r : ℕ) (sum : q * q + r ≡ n) where
  rounds_down : r ≤ q → root_cut Nearest n 1 ≡ q
  rounds_down h =
      sym (rounds Nearest n q r (record { sum = sum; least = twice q r h }))
      ∙ ap (nearest q) (compare_is Ordering.lt (r * 2 * 2) (q * 4 + 1) (less q r h))
    where
      twice : (q r : ℕ) → r ≤ q → r ≤ 2 * q
      twice q r h = omega arith

      less : (q r : ℕ) → r ≤ q → r * 2 * 2 < q * 4 + 1
      less q r h = omega arith

  rounds_up : q < r → r ≤ 2 * q → root_cut Nearest n 1 ≡ q + 1
  rounds_up h l =
      sym (rounds Nearest n q r (record { sum = sum; least = l }))
      ∙ ap (nearest q) (compare_is Ordering.gt (r * 2 * 2) (q * 4 + 1) (more q r h))
      ∙ sym (add-one q)
    where
      more : (q r : ℕ) → q < r → q * 4 + 1 < r * 2 * 2
      more q r h = omega arith

bit_is : (a x y : ℕ) → a ≡ cond (ltb x y) 1 0 → ((x < y) × (a ≡ 1)) ⊎ ((y ≤ x) × (a ≡ 0))
bit_is a x y e = go (dec_lt x y)
  where
    go : Dec (x < y) → ((x < y) × (a ≡ 1)) ⊎ ((y ≤ x) × (a ≡ 0))
    go (yes l) = inl (l, e ∙ ap (λ (t : Bool). cond t 1 0) (lt-ltb x y l))
    go (no n) = let l : y ≤ x = le_of_suc-le-suc (lt_of_not-le n) in inr (l, e ∙ ap (λ (t : Bool). cond t 1 0) (le-ltb x y l))

module _ (q rest : ℕ) where
  -- one step, and two
  once : 2 * q < rest → (q + 1) * (q + 1) + (rest - (2 * q + 1)) ≡ q * q + rest
  once l = omega arith

  twice : 4 * q + 3 < rest → (q + 2) * (q + 2) + (rest - (4 * q + 4)) ≡ q * q + rest
  twice l = omega arith

  at_q : rest ≤ q → root_cut Nearest (q * q + rest) 1 ≡ q
  at_q l = rounds_down (q * q + rest) q rest refl l

  next : q < rest → rest ≤ 3 * q + 2 → root_cut Nearest (q * q + rest) 1 ≡ q + 1
  next l m = go (dec_le rest (2 * q))
    where
      small : rest ≤ 3 * q + 2 → rest - (2 * q + 1) ≤ q + 1
      small m = omega arith

      go : Dec (rest ≤ 2 * q) → root_cut Nearest (q * q + rest) 1 ≡ q + 1
      go (yes k) = rounds_up (q * q + rest) q rest refl l k
      go (no k) = rounds_down (q * q + rest) (q + 1) (rest - (2 * q + 1)) (once (lt_of_not-le k)) (small m)

  second : 3 * q + 2 < rest → rest ≤ 5 * q + 6 → root_cut Nearest (q * q + rest) 1 ≡ q + 2
  second l m = go (dec_le rest (4 * q + 3))
    where
      past : 3 * q + 2 < rest → (2 * q < rest) × (q + 1 < rest - (2 * q + 1))
      past l = (omega arith, omega arith)

      small : rest ≤ 4 * q + 3 → rest - (2 * q + 1) ≤ 2 * (q + 1)
      small k = omega arith

      least : rest ≤ 5 * q + 6 → rest - (4 * q + 4) ≤ q + 2
      least m = omega arith

      same : q + 1 + 1 ≡ q + 2
      same = omega arith

      go : Dec (rest ≤ 4 * q + 3) → root_cut Nearest (q * q + rest) 1 ≡ q + 2
      go (yes k) = rounds_up (q * q + rest) (q + 1) (rest - (2 * q + 1)) (once (past l).0) (past l).1 (small k) ∙ same
      go (no k) = rounds_down (q * q + rest) (q + 2) (rest - (4 * q + 4)) (twice (lt_of_not-le k)) (least m)

  pub near_is : (a b : ℕ) → rest ≤ 5 * q + 6 → a ≡ cond (ltb q rest) 1 0 → b ≡ cond (ltb (3 * q + 2) rest) 1 0 → q + (a + b) ≡ root_cut Nearest (q * q + rest) 1
  near_is a b h p d = go (bit_is a q rest p) (bit_is b (3 * q + 2) rest d)
    where
      sums : (c : ℕ) → a + b ≡ c → q + (a + b) ≡ q + c
      sums c e = omega arith

      never : rest ≤ q → 3 * q + 2 < rest → ⊥
      never l m = omega arith

      none : a ≡ 0 → b ≡ 0 → q + (a + b) ≡ q
      none x y = omega arith

      go : ((q < rest) × (a ≡ 1)) ⊎ ((rest ≤ q) × (a ≡ 0)) → ((3 * q + 2 < rest) × (b ≡ 1)) ⊎ ((rest ≤ 3 * q + 2) × (b ≡ 0)) → q + (a + b) ≡ root_cut Nearest (q * q + rest) 1
      go (inr u) (inr v) = none u.1 v.1 ∙ sym (at_q u.0)
      go (inr u) (inl v) = absurd (never u.0 v.0)
      go (inl u) (inr v) = sums 1 (omega arith) ∙ sym (next u.0 v.0)
      go (inl u) (inl v) = sums 2 (omega arith) ∙ sym (second v.0 h)

-- ---- downwards and upwards, by the steps that what is left has room for

module _ (q rest : ℕ) where
  abbrev used : ℕ → ℕ
  used i = i * (2 * q + i)

  -- so many steps, and what is left after them
  abbrev Stepped : ℕ → Type 0
  Stepped i = (used i ≤ rest) × IsRoot (q * q + rest) (q + i) (rest - used i)

  none : rest ≤ 2 * q → Stepped 0
  none l = (omega arith, record { sum = omega arith; least = omega arith })

  one : 2 * q < rest → rest ≤ 4 * q + 3 → Stepped 1
  one l m = (omega arith, record { sum = omega arith; least = omega arith })

  two : 4 * q + 3 < rest → rest ≤ 5 * q + 6 → Stepped 2
  two l m = (omega arith, record { sum = omega arith; least = omega arith })

  steps_are : (a b : ℕ) → rest ≤ 5 * q + 6 → a ≡ cond (ltb (2 * q) rest) 1 0 → b ≡ cond (ltb (4 * q + 3) rest) 1 0 → Stepped (a + b)
  steps_are a b h p d = go (bit_is a (2 * q) rest p) (bit_is b (4 * q + 3) rest d)
    where
      sums : (a b x y : ℕ) → a ≡ x → b ≡ y → x + y ≡ a + b
      sums a b x y u v = omega arith

      never : rest ≤ 2 * q → 4 * q + 3 < rest → ⊥
      never l m = omega arith

      go : ((2 * q < rest) × (a ≡ 1)) ⊎ ((rest ≤ 2 * q) × (a ≡ 0)) → ((4 * q + 3 < rest) × (b ≡ 1)) ⊎ ((rest ≤ 4 * q + 3) × (b ≡ 0)) → Stepped (a + b)
      go (inr u) (inr v) = subst Stepped (sums a b 0 0 u.1 v.1) (none u.0)
      go (inr u) (inl v) = absurd (never u.0 v.0)
      go (inl u) (inr v) = subst Stepped (sums a b 1 0 u.1 v.1) (one u.0 v.0)
      go (inl u) (inl v) = subst Stepped (sums a b 1 1 u.1 v.1) (two v.0 h)

  -- whether nothing is left after the steps
  pub down_exact : (a b : ℕ) → rest ≤ 5 * q + 6 → a ≡ cond (ltb (2 * q) rest) 1 0 → b ≡ cond (ltb (4 * q + 3) rest) 1 0
      → eqb (used (a + b)) rest ≡ eqb (isqrt (q * q + rest) * isqrt (q * q + rest)) (q * q + rest)
  down_exact a b h p d = steps_exact Zero q rest (a + b) (rounds Zero (q * q + rest) (q + (a + b)) (rest - used (a + b)) (steps_are a b h p d).1)

  pub directed_is : (up : Bool) (a b c : ℕ) → rest ≤ 5 * q + 6 → a ≡ cond (ltb (2 * q) rest) 1 0 → b ≡ cond (ltb (4 * q + 3) rest) 1 0
      → c ≡ cond (up && ltb (used (a + b)) rest) 1 0 → q + (a + b) + c ≡ root_cut (cond up Up Zero) (q * q + rest) 1
  directed_is false a b c h p d g = nothing (q + (a + b)) c g ∙ rounds Zero (q * q + rest) (q + (a + b)) (rest - used (a + b)) (steps_are a b h p d).1
    where
      nothing : (x c : ℕ) → c ≡ 0 → x + c ≡ x
      nothing x c e = omega arith
  directed_is true a b c h p d g = go (bit_is c (used (a + b)) rest g)
    where
      next : (x c : ℕ) → c ≡ 1 → x + c ≡ suc x
      next x c e = omega arith

      same : (x c : ℕ) → c ≡ 0 → x + c ≡ x
      same x c e = omega arith

      some : (u r : ℕ) → u < r → (r - u) * 2 ≡ 0 → ⊥
      some u r l e = omega arith

      zero_left : (u r : ℕ) → r ≤ u → (r - u) * 2 ≡ 0
      zero_left u r l = omega arith

      root : cond (eqb ((rest - used (a + b)) * 2) 0) (q + (a + b)) (suc (q + (a + b))) ≡ root_cut Up (q * q + rest) 1
      root = rounds Up (q * q + rest) (q + (a + b)) (rest - used (a + b)) (steps_are a b h p d).1

      go : ((used (a + b) < rest) × (c ≡ 1)) ⊎ ((rest ≤ used (a + b)) × (c ≡ 0)) → q + (a + b) + c ≡ root_cut Up (q * q + rest) 1
      go (inl u) = next (q + (a + b)) c u.1 ∙ ap (λ (t : Bool). cond t (q + (a + b)) (suc (q + (a + b)))) (sym (ne_eqb ((rest - used (a + b)) * 2) 0 (some (used (a + b)) rest u.0))) ∙ root
      go (inr u) = same (q + (a + b)) c u.1 ∙ ap (λ (t : Bool). cond t (q + (a + b)) (suc (q + (a + b)))) (sym (eq-eqb ((rest - used (a + b)) * 2) 0 (zero_left (used (a + b)) rest u.0))) ∙ root

pub used_most : (q i : ℕ) → i ≤ 2 → i * (2 * q + i) ≤ 4 * q + 4
used_most q i h = le_trans (mul-le-mul h (both q i h)) (most q)
  where
    both : (q i : ℕ) → i ≤ 2 → 2 * q + i ≤ 2 * q + 2
    both q i h = omega arith

    most : (q : ℕ) → 2 * (2 * q + 2) ≤ 4 * q + 4
    most q = omega arith

-- the mode of a control word whose mode is not 00: upwards, or as towards zero
pub by_mode : (control n : ℕ) → 0 < control / 2 ^ 22 % 4 → root_cut (cond (eqb (control / 2 ^ 22 % 4) 1) Up Zero) n 1 ≡ root_cut (rounding_of control) n 1
by_mode control n h = go (dec_lt (control / 2 ^ 22 % 4) 2) (dec_lt (control / 2 ^ 22 % 4) 3)
  where
    mode : ℕ
    mode = control / 2 ^ 22 % 4

    some : (x : ℕ) → 0 < x → x ≡ 0 → ⊥
    some x h e = omega arith

    first : (x : ℕ) → 0 < x → x < 2 → x ≡ 1
    first x h l = omega arith

    later : (x : ℕ) → (x < 2 → ⊥) → x ≡ 1 → ⊥
    later x l e = omega arith

    second : (x : ℕ) → (x < 2 → ⊥) → x < 3 → x ≡ 2
    second x n l = omega arith

    last : (x : ℕ) → (x < 3 → ⊥) → x ≡ 2 → ⊥
    last x n e = omega arith

    at : (x : Bool) (r : Rounding) → eqb mode 1 ≡ x → r ≡ rounding_of control → root_cut (cond x Up Zero) n 1 ≡ root_cut r n 1 → root_cut (cond (eqb mode 1) Up Zero) n 1 ≡ root_cut (rounding_of control) n 1
    at x r e d p = ap (λ (t : Bool). root_cut (cond t Up Zero) n 1) e ∙ p ∙ ap (λ (z : Rounding). root_cut z n 1) d

    go : Dec (mode < 2) → Dec (mode < 3) → root_cut (cond (eqb mode 1) Up Zero) n 1 ≡ root_cut (rounding_of control) n 1
    go (yes l) d = at true Up (eq-eqb mode 1 (first mode h l)) (mode_up control (some mode h) (first mode h l)) refl
    go (no k) (yes l) = at false Down (ne_eqb mode 1 (later mode k)) (mode_down control (some mode h) (later mode k) (second mode k l)) refl
    go (no k) (no l) = at false Zero (ne_eqb mode 1 (later mode k)) (mode-zero control (some mode h) (later mode k) (last mode l)) refl

-- of an estimate that is near
pub found : (mode : Rounding) (n most q rest r : ℕ) (near x : Bool) → IsEstimate n most q rest near → near ≡ true → IsRooted mode (q * q + rest) (q + 3) r x
    → (r ≡ root_cut mode n 1) × (r ≤ most + 2) × (x ≡ eqb (isqrt n * isqrt n) n)
found mode n most q rest r near x e t p = (
  p.kept_is ∙ ap (λ (z : ℕ). root_cut mode z 1) (e.sum t),
  le_trans p.below (three q most (e.below t)),
  p.exact_is ∙ ap (λ (z : ℕ). eqb (isqrt z * isqrt z) z) (e.sum t),
)
  where
    three : (q m : ℕ) → q < m → q + 3 ≤ m + 2
    three q m l = omega arith

-- ---- what is left, of wrapped differences

pub product_lt : (a b m n : ℕ) → a < m → b < n → a * b < m * n
product_lt a b m n h l = lt_of_le_of_lt (mul-le-mul (le_refl a) (le_of_lt l)) (mul-lt-mul_of_pos_right h (some b n l))
  where
    some : (b n : ℕ) → b < n → 0 < n
    some b n l = omega arith

-- a number whose square is at most n
pub square_below : (q rest n m : ℕ) → q * q + rest ≡ n → n < m * m → q < m
square_below q rest n m e h = lt_of_not-le (λ (g : m ≤ q). never (q * q) (m * m) (mul-le-mul g g) e h)
  where
    never : (s t : ℕ) → t ≤ s → s + rest ≡ n → n < t → ⊥
    never s t g e h = omega arith

unwrapped : (r p x : ℕ) → r < 2 ^ 63 → p < 2 ^ 63 → (r + p) % 2 ^ 64 ≡ x → r + p ≡ x
unwrapped r p x h l e = omega arith

pub short_rest : (x q rest : ℕ) → q < 2 ^ 26 → (rest + q * q) % 2 ^ 64 ≡ x → rest ≤ 5 * q + 6 → q * q + rest ≡ x
short_rest x q rest Q e h = add_comm (q * q) rest ∙ unwrapped rest (q * q) x (few q rest Q h) (lt_trans (product_lt q q (2 ^ 26) (2 ^ 26) Q Q) (lit< tt)) e
  where
    few : (q rest : ℕ) → q < 2 ^ 26 → rest ≤ 5 * q + 6 → rest < 2 ^ 63
    few q rest l h = omega arith

-- q's two parts, and what is left after each of the three products of its square
module _ (x h l a b rest : ℕ) where
  abbrev parts : ℕ
  parts = h * 0x400_0000 + l

  pub long_rest : h < 2 ^ 29 → l < 2 ^ 31 → (a + h * h) % 2 ^ 64 ≡ x → (b + 2 * h * l) % 2 ^ 64 ≡ a % 0x40_0000_0000 * 0x400_0000 → (rest + l * l) % 2 ^ 64 ≡ b % 0x40_0000_0000 * 0x400_0000
      → a < 0x8000_0000 → b < 0x8000_0000 → rest ≤ 5 * parts + 6 → parts * parts + rest ≡ x * 2 ^ 52
  long_rest H L ea eb er A B R =
      together x h l a b rest
      (unwrapped a (h * h) x (large a A) (lt_trans (product_lt h h (2 ^ 29) (2 ^ 29) H H) (lit< tt)) ea)
      (unwrapped b (2 * h * l) (a % 0x40_0000_0000 * 0x400_0000) (large b B) (lt_trans (product_lt (2 * h) l (2 ^ 30) (2 ^ 31) (double h H) L) (lit< tt)) eb ∙ whole a A)
      (unwrapped rest (l * l) (b % 0x40_0000_0000 * 0x400_0000) (few h l rest H L R) (lt_trans (product_lt l l (2 ^ 31) (2 ^ 31) L L) (lit< tt)) er ∙ whole b B)
    where
      large : (a : ℕ) → a < 0x8000_0000 → a < 2 ^ 63
      large a h = omega arith

      double : (h : ℕ) → h < 2 ^ 29 → 2 * h < 2 ^ 30
      double h l = omega arith

      whole : (a : ℕ) → a < 0x8000_0000 → a % 0x40_0000_0000 * 0x400_0000 ≡ a * 0x400_0000
      whole a h = omega arith

      few : (h l rest : ℕ) → h < 2 ^ 29 → l < 2 ^ 31 → rest ≤ 5 * (h * 0x400_0000 + l) + 6 → rest < 2 ^ 63
      few h l rest H L R = omega arith

      together : (x h l a b rest : ℕ) → a + h * h ≡ x → b + 2 * h * l ≡ a * 0x400_0000 → rest + l * l ≡ b * 0x400_0000 → (h * 0x400_0000 + l) * (h * 0x400_0000 + l) + rest ≡ x * 2 ^ 52
      together x h l a b rest ea eb er = omega arith

fst : (a b : Bool) → a && b ≡ true → a ≡ true
fst true b e = refl
fst false b e = e

snd : (a b : Bool) → a && b ≡ true → b ≡ true
snd true b e = e
snd false b e = let z : ◌≡◌ {A = ℕ} 0 1 = cc in absurd (omega arith)

pub three_small : (a b m rest n : ℕ) → ltb a m && ltb b m && leb rest n ≡ true → (a < m) × (b < m) × (rest ≤ n)
three_small a b m rest n e =
    let u = fst (ltb a m && ltb b m) (leb rest n) e in
    (ltb-true a m (fst (ltb a m) (ltb b m) u), ltb-true b m (snd (ltb a m) (ltb b m) u), leb-true rest n (snd (ltb a m && ltb b m) (leb rest n) e))

-- ---- estimates

pub short_estimate : (x q rest : ℕ) → q < 2 ^ 26 → x < 2 ^ 54 → (rest + q * q) % 2 ^ 64 ≡ x / 64 → IsEstimate (x / 64) (2 ^ 24) q rest (leb rest (5 * q + 6))
short_estimate x q rest Q X e = record {
  small = lt_trans Q (lit< tt);
  sum = λ t. whole (leb-true rest (5 * q + 6) t);
  room = leb-true rest (5 * q + 6);
  below = λ t. square_below q rest (x / 64) (2 ^ 24) (whole (leb-true rest (5 * q + 6) t)) (few x X);
}
  where
    whole : rest ≤ 5 * q + 6 → q * q + rest ≡ x / 64
    whole l = short_rest (x / 64) q rest Q e l

    few : (x : ℕ) → x < 2 ^ 54 → x / 64 < 2 ^ 24 * 2 ^ 24
    few x h = omega arith

module _ (x h l a b rest : ℕ) where
  abbrev q : ℕ
  q = h * 0x400_0000 + l

  pub long_estimate : x < 2 ^ 54 → h < 2 ^ 29 → l < 2 ^ 32 → (a < 2 ^ 31 → l < 2 ^ 31) → (a + h * h) % 2 ^ 64 ≡ x → (b + 2 * h * l) % 2 ^ 64 ≡ a % 0x40_0000_0000 * 0x400_0000
      → (rest + l * l) % 2 ^ 64 ≡ b % 0x40_0000_0000 * 0x400_0000
      → IsEstimate (x * 2 ^ 52) (2 ^ 53) q rest (ltb a 0x8000_0000 && ltb b 0x8000_0000 && leb rest (5 * q + 6))
  long_estimate X H L S ea eb er = record {
    small = most h l H L;
    sum = whole;
    room = λ t. (told t).2;
    below = λ t. square_below q rest (x * 2 ^ 52) (2 ^ 53) (whole t) (few x X);
  }
    where
      most : (h l : ℕ) → h < 2 ^ 29 → l < 2 ^ 32 → h * 0x400_0000 + l < 2 ^ 60
      most h l H L = omega arith

      told : ltb a 0x8000_0000 && ltb b 0x8000_0000 && leb rest (5 * q + 6) ≡ true → (a < 0x8000_0000) × (b < 0x8000_0000) × (rest ≤ 5 * q + 6)
      told t = three_small a b 0x8000_0000 rest (5 * q + 6) t

      whole : ltb a 0x8000_0000 && ltb b 0x8000_0000 && leb rest (5 * q + 6) ≡ true → q * q + rest ≡ x * 2 ^ 52
      whole t = let u = told t in long_rest x h l a b rest H (S u.0) ea eb er u.0 u.1 u.2

      few : (x : ℕ) → x < 2 ^ 54 → x * 2 ^ 52 < 2 ^ 53 * 2 ^ 53
      few x h = omega arith

-- ---- the word, from the radicand's root

pub radicand_low : (y : ℕ) → y < 2 ^ 52 → radicand y ≡ y * 2 + 2 ^ 53
radicand_low y h = ap (λ (t : Bool). cond t (y * 2 + 2 ^ 53) y) (lt-ltb y (2 ^ 52) h)

pub radicand_high : (y : ℕ) → 2 ^ 52 ≤ y → radicand y ≡ y
radicand_high y h = ap (λ (t : Bool). cond t (y * 2 + 2 ^ 53) y) (le-ltb y (2 ^ 52) h)

module _ (f : Format) (b : ℕ) where
  abbrev odd : ℕ
  odd = (b % top f / hid f + shift f) % 2

  abbrev digits : ℕ
  digits = (hid f + b % hid f) * 2 ^ rise f

even_field : (f : Format) (b y : ℕ) → b < ones f * hid f → y ≡ b % (2 * hid f) * 2 ^ rise f → y < 2 ^ 52 → (odd f b ≡ 1) × (digits f b * 2 ^ 11 ≡ (y * 2 + 2 ^ 53) * 2 ^ 10)
even_field binary32 b y h e l = (omega arith, omega arith)
even_field binary64 b y h e l = (omega arith, omega arith)

odd_field : (f : Format) (b y : ℕ) → b < ones f * hid f → y ≡ b % (2 * hid f) * 2 ^ rise f → 2 ^ 52 ≤ y → (odd f b ≡ 0) × (digits f b * 2 ^ 10 ≡ y * 2 ^ 10)
odd_field binary32 b y h e l = (omega arith, omega arith)
odd_field binary64 b y h e l = (omega arith, omega arith)

placed : (f : Format) (b y : ℕ) → b < ones f * hid f → y ≡ b % (2 * hid f) * 2 ^ rise f → radicand y * 2 ^ 10 ≡ digits f b * 2 ^ (odd f b + 10)
placed f b y h e = go (dec_lt y (2 ^ 52))
  where
    go : Dec (y < 2 ^ 52) → radicand y * 2 ^ 10 ≡ digits f b * 2 ^ (odd f b + 10)
    go (yes l) = let u = even_field f b y h e l in ap (λ (z : ℕ). z * 2 ^ 10) (radicand_low y l) ∙ sym u.1 ∙ ap (λ (z : ℕ). digits f b * 2 ^ (z + 10)) (sym u.0)
    go (no n) =
        let l : 2 ^ 52 ≤ y = le_of_suc-le-suc (lt_of_not-le n) in
        let u = odd_field f b y h e l in
        ap (λ (z : ℕ). z * 2 ^ 10) (radicand_high y l) ∙ sym u.1 ∙ ap (λ (z : ℕ). digits f b * 2 ^ (z + 10)) (sym u.0)

normal : (f : Format) (b : ℕ) → hid f ≤ b → b < ones f * hid f → (b < top f) × (b % top f / hid f ≡ 0 → ⊥) × (b % top f / hid f ≡ ones f → ⊥)
normal binary32 b h l = (omega arith, λ e. omega arith, λ e. omega arith)
normal binary64 b h l = (omega arith, λ e. omega arith, λ e. omega arith)

scaled_is : (f : Format) (x : ℕ) → scaled f x ≡ x * 2 ^ 10 * 2 ^ (prec f + prec f) / 2 ^ 64
scaled_is binary32 x = omega arith
scaled_is binary64 x = omega arith

-- the word of a root's digits: half of the exponent, and the digits below it
placed_is : (f : Format) (b kept : ℕ) → b < ones f * hid f → (b / hid f + b / hid f % 2 + (low f - prec f - 1)) * (hid f / 2) + kept ≡ ((b % top f / hid f + shift f) / 2 + base f) * hid f + kept
placed_is binary32 b kept h = omega arith
placed_is binary64 b kept h = omega arith

-- a word below the infinity is no NaN
pub below_nan : (f : Format) (b : ℕ) → b < ones f * hid f → nan_bits f b ≡ false
below_nan f b h = no_nan f b (le_trans (mod-le b (top f)) (le_of_lt h))

-- a normal value's word
pub near_word : (mode : Rounding) (f : Format) (b y n kept r raised : ℕ) (x : Bool) → hid f ≤ b → b < ones f * hid f → y ≡ b % (2 * hid f) * 2 ^ rise f → n ≡ scaled f (radicand y)
    → kept ≡ root_cut mode n 1 → x ≡ eqb (isqrt n * isqrt n) n → r ≡ (b / hid f + b / hid f % 2 + (low f - prec f - 1)) * (hid f / 2) + kept → raised ≡ cond x 0 inexact → IsSqrt mode f (of_bits f b) r raised
near_word mode f b y n kept r raised x h l e d k t w g =
    let u = normal f b h l in
    let same = d ∙ scaled_is f (radicand y) ∙ ap (λ (z : ℕ). z * 2 ^ (prec f + prec f) / 2 ^ 64) (placed f b y l e) in
    let is = root_mid mode f b (digits f b) kept x u.0 u.1 u.2 refl (k ∙ ap (λ (z : ℕ). root_cut mode z 1) same, t ∙ ap (λ (z : ℕ). eqb (isqrt z * isqrt z) z) same) in
    record { bits_are = w ∙ placed_is f b kept l ∙ is.bits_are; raised_is = g ∙ is.raised_is }
