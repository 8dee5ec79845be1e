-- What is printed, read back: digits of any base up to 16, a word in hexadecimal, a number in decimal. So equal digits are of equal numbers.
use Prim.Native.Nat.{ℕ, zero, suc, ◌+◌, ◌*◌, ◌/◌, ◌%◌, ◌^◌, ◌≤◌, ◌<◌}
use native.Mathlib.Omega.{arith}
use native.Mathlib.Nat.{pow-zero, pow-suc, mod-lt, div-add-mod', div-lt_iff_lt-mul, le-mul_of_pos_right}
use mathlib.Core.Path.{◌≡◌, refl, sym, ◌∙◌, ap, subst}
use mathlib.Core.Bool.{Bool, true, false, cond}
use mathlib.Core.List.{List, [], ◌∷◌, ◌++◌}
use lib.Dec.{eqb, ltb}
use lib.ListN.{length}
use borrow.Author.Tests.{lt-ltb, le-ltb, ltb-true, ltb-false, le-leb, eqb-true}
use Rattle.numerals.specs.Number.{Value}
use Rattle.numerals.specs.Number.{digit_of, read_from, hex_of, decimal_of, digit_text, digits_text, stripped, hex_text, decimal_text}
use Rattle.numerals.proofs.Digits.{digits_length}

-- ---- digits

digit_back : (d : ℕ) → d < 16 → digit_of (digit_text d) ≡ d
unfolding digit_of digit_text
digit_back d h = by (ltb d 10) refl
  where
    by : (b : Bool) → ltb d 10 ≡ b → digit_of (cond b (48 + d) (55 + d)) ≡ d
    by true e =
        let l : d < 10 = ltb-true d 10 e in
        rw (le-ltb (48 + d) 48 (omega arith), lt-ltb (48 + d) 58 (omega arith)) (omega arith)
    by false e =
        let l : 10 ≤ d = ltb-false d 10 e in
        rw (le-ltb (55 + d) 48 (omega arith), le-ltb (55 + d) 58 (omega arith), le-ltb (55 + d) 65 (omega arith), lt-ltb (55 + d) 71 (omega arith)) (omega arith)

-- every byte of a text is a digit of the base
pub data Digits (base : ℕ) : List ℕ → Type 0 where
  none : Digits base []
  more : {b : ℕ} {t : List ℕ} → digit_of b < base → Digits base t → Digits base (b ∷ t)

Digits-join : {base : ℕ} {s t : List ℕ} → Digits base s → Digits base t → Digits base (s ++ t)
Digits-join none k = k
Digits-join (more h j) k = more h (Digits-join j k)

-- what a text of digits is worth after v
worth : ℕ → List ℕ → ℕ → ℕ
worth base [] v = v
worth base (b ∷ t) v = worth base t (v * base + digit_of b)

worth_join : (base : ℕ) (s t : List ℕ) (v : ℕ) → worth base (s ++ t) v ≡ worth base t (worth base s v)
unfolding worth
worth_join base [] t v = refl
worth_join base (b ∷ s) t v = worth_join base s t (v * base + digit_of b)

module _ (base : ℕ) (pos : 0 < base) where
  worth_grows : (t : List ℕ) (v : ℕ) → v ≤ worth base t v
  unfolding worth
  worth_grows [] v = omega arith
  worth_grows (b ∷ t) v = omega (arith, le-mul_of_pos_right v pos, worth_grows t (v * base + digit_of b))

  read_worth : {t : List ℕ} → Digits base t → (v : ℕ) → worth base t v < 2 ^ 32 → read_from base t v ≡ Value (worth base t v)
  unfolding worth read_from
  read_worth none v h = refl
  read_worth (more {b} {t} d k) v h =
      let w : v * base + digit_of b < 2 ^ 32 = omega (arith, worth_grows t (v * base + digit_of b)) in
      rw (lt-ltb (digit_of b) base d, lt-ltb (v * base + digit_of b) (2 ^ 32) w) (read_worth k (v * base + digit_of b) h)

  module _ (small : base ≤ 16) where
    last : (x : ℕ) → digit_of (digit_text (x % base)) ≡ x % base
    last x = digit_back (x % base) (omega (arith, mod-lt x pos))

    pub Digits-all : (n x : ℕ) → Digits base (digits_text base n x)
    unfolding digits_text
    Digits-all zero x = none
    Digits-all (suc n) x =
        Digits-join (Digits-all n (x / base)) (more (subst (λ (k : ℕ). k < base) (sym (last x)) (mod-lt x pos)) none)

    worth_digits : (n x : ℕ) → x < base ^ n → worth base (digits_text base n x) 0 ≡ x
    unfolding digits_text worth
    worth_digits zero x h = omega (arith, pow-zero base)
    worth_digits (suc n) x h =
        worth_join base (digits_text base n (x / base)) (digit_text (x % base) ∷ []) 0
        ∙ rw (worth_digits n (x / base) ((div-lt_iff_lt-mul pos).1 (rw (pow-suc base n) at h)), last x) (div-add-mod' x base)

    -- as many digits as a number has
    pub digits_back : (n x : ℕ) → x < base ^ n → x < 2 ^ 32 → read_from base (digits_text base n x) 0 ≡ Value x
    digits_back n x h k =
        let e = worth_digits n x h in
        read_worth (Digits-all n x) 0 (rw e k) ∙ ap Value e

    -- equal digits are of equal numbers
    pub digits_same : (n x y : ℕ) → x < base ^ n → y < base ^ n → digits_text base n x ≡ digits_text base n y → x ≡ y
    digits_same n x y h k e = sym (worth_digits n x h) ∙ (ap (λ (t : List ℕ). worth base t 0) e ∙ worth_digits n y k)

-- ---- a word in hexadecimal

pub hex_back : (x : ℕ) → x < 2 ^ 32 → hex_of (hex_text x) ≡ Value x
unfolding hex_of hex_text
hex_back x h = digits_back 16 (omega arith) (omega arith) 8 x h h

-- ---- a number in decimal

strip_read : (n : ℕ) (t : List ℕ) → read_from 10 (stripped n t) 0 ≡ read_from 10 t 0
unfolding stripped read_from digit_of
strip_read zero t = refl
strip_read (suc n) [] = refl
strip_read (suc n) (b ∷ t) = by (eqb b 48) refl (strip_read n t)
  where
    by : (k : Bool) → eqb b 48 ≡ k → read_from 10 (stripped n t) 0 ≡ read_from 10 t 0 → read_from 10 (cond k (stripped n t) (b ∷ t)) 0 ≡ read_from 10 (b ∷ t) 0
    by true e i = i ∙ ap (λ (c : ℕ). read_from 10 (c ∷ t) 0) (sym (eqb-true b 48 e))
    by false e i = refl

pub strip_some : (n : ℕ) (t : List ℕ) → n < length t → 1 ≤ length (stripped n t)
unfolding stripped
strip_some zero t h = omega arith
strip_some (suc n) [] h = absurd (omega arith)
strip_some (suc n) (b ∷ t) h = by (eqb b 48) (strip_some n t (omega arith))
  where
    by : (k : Bool) → 1 ≤ length (stripped n t) → 1 ≤ length (cond k (stripped n t) (b ∷ t))
    by true i = i
    by false i = omega arith

pub strip_all : (n : ℕ) {t : List ℕ} → Digits 10 t → Digits 10 (stripped n t)
unfolding stripped
strip_all zero k = k
strip_all (suc n) none = none
strip_all (suc n) (more {b} {t} d k) = by (eqb b 48) (strip_all n k)
  where
    by : (c : Bool) → Digits 10 (stripped n t) → Digits 10 (cond c (stripped n t) (b ∷ t))
    by true i = i
    by false i = more d k

pub decimal_back : (x : ℕ) → x < 2 ^ 32 → decimal_of (decimal_text x) ≡ Value x
unfolding decimal_of decimal_text
decimal_back x h =
    rw (le-leb 1 (length (stripped 9 (digits_text 10 10 x))) (strip_some 9 (digits_text 10 10 x) (omega (arith, digits_length 10 10 x))))
    (strip_read 9 (digits_text 10 10 x) ∙ digits_back 10 (omega arith) (omega arith) 10 x (omega arith) h)
