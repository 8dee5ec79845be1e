-- The laws of the window marks: one by one, eight at once, and the eight bytes of a word.
use Prim.Native.Nat.{ℕ, zero, suc, ◌+◌, ◌*◌, ◌/◌, ◌%◌, ◌^◌, ◌<◌, ◌≤◌}
use native.Mathlib.Omega.{arith}
use native.Mathlib.Decide.{dec_lt}
use native.Mathlib.Nat.{mod-eq_of_lt}
use native.Mathlib.Numerals.{add-one}
use mathlib.Core.Path.{◌≡◌, refl, ap, sym, ◌∙◌}
use mathlib.Core.Bool.{Bool, true, false, ◌&&◌}
use mathlib.Core.List.{List, [], ◌∷◌}
use lib.Dec.{eqb, ltb}
use lib.ListN.{length, get_or, take, drop, drop_of_length-le}
use lib.Seq.{drop-cons, drop-drop}
use lib.Bits.{bit_and, and_zero_r, and_block, and_high}
use borrow.Author.Tests.{lt-ltb, le-ltb, ne_eqb}
use Rattle.window_marks.specs.Marks.{bits_only, bytes_of, word_at}

-- ---- one by one

pub bits_end : (l : List ℕ) (i : ℕ) → length l ≤ i → true ≡ bits_only (drop i l)
unfolding bits_only
bits_end l i h = rw (drop_of_length-le l h)

module _ (l : List ℕ) (i : ℕ) (h : i < length l) where
  pub bits_on : get_or l i 0 ≤ 1 → bits_only (drop (i + 1) l) ≡ bits_only (drop i l)
  unfolding bits_only
  bits_on e = rw (add-one i, drop-cons l i 0, lt-ltb (get_or l i 0) 2 (omega arith))

  pub bits_not : 1 < get_or l i 0 → false ≡ bits_only (drop i l)
  unfolding bits_only
  bits_not e = rw (drop-cons l i 0, le-ltb (get_or l i 0) 2 (omega arith))

-- ---- several at once

-- the marks of a list are those of its first n and those after them
bits_parts : (n : ℕ) (l : List ℕ) → bits_only l ≡ (bits_only (take n l) && bits_only (drop n l))
unfolding bits_only
bits_parts zero l = refl
bits_parts (suc n) [] = refl
bits_parts (suc n) (m ∷ l) = by (ltb m 2) (bits_parts n l)
  where
    by : (b : Bool) → bits_only l ≡ (bits_only (take n l) && bits_only (drop n l)) → (b && bits_only l) ≡ ((b && bits_only (take n l)) && bits_only (drop n l))
    by true e = e
    by false e = refl

-- ---- a word

-- 254 in each of n bytes
mask : ℕ → ℕ
mask zero = 0
mask (suc n) = mask n * 2 ^ 8 + 254

-- above and below a byte
add_byte : (a x : ℕ) → x ≡ 0 → eqb (a * 2 ^ 8 + x) 0 ≡ eqb a 0
add_byte zero x e = ap (λ (y : ℕ). eqb y 0) (let f : 0 * 2 ^ 8 + x ≡ 0 = omega arith in f)
add_byte (suc a) x e = ne_eqb (suc a * 2 ^ 8 + x) 0 (λ f. let g : suc a * 2 ^ 8 + x ≡ 0 = f in omega (arith, g)) ∙ sym (ne_eqb (suc a) 0 (λ f. omega arith))

byte_masked : (a b : ℕ) → b < 256 → eqb (a * 2 ^ 8 + b / 2 % 2 ^ 7 * 2) 0 ≡ (ltb b 2 && eqb a 0)
byte_masked a b h =
    let q : b / 2 % 2 ^ 7 ≡ b / 2 = mod-eq_of_lt (let k : b / 2 < 2 ^ 7 = omega arith in k) in
    rw q (by (dec_lt b 2))
  where
    some : 2 ≤ b → a * 2 ^ 8 + b / 2 * 2 ≡ 0 → ⊥
    some l e = let k : 1 ≤ b / 2 = omega arith in omega (arith, k, e)

    by : Dec (b < 2) → eqb (a * 2 ^ 8 + b / 2 * 2) 0 ≡ (ltb b 2 && eqb a 0)
    by (yes l) = rw (lt-ltb b 2 l) (add_byte a (b / 2 * 2) (omega arith))
    by (no l) = let k : 2 ≤ b = omega arith in rw (le-ltb b 2 k) (ne_eqb (a * 2 ^ 8 + b / 2 * 2) 0 (some k))

masked : (n w : ℕ) → eqb (bit_and w (mask n)) 0 ≡ bits_only (bytes_of n w)
unfolding mask bits_only bytes_of
masked zero w = rw (and_zero_r w)
masked (suc n) w =
    let e : w ≡ w / 256 * 2 ^ 8 + w % 256 = omega arith in
    let a : bit_and w (mask n * 2 ^ 8 + 254) ≡ bit_and (w / 256) (mask n) * 2 ^ 8 + w % 256 / 2 % 2 ^ 7 * 2 =
    ap (λ (x : ℕ). bit_and x (mask n * 2 ^ 8 + 254)) e
    ∙ (and_block 8 (w / 256) (mask n) (w % 256) 254 (omega arith) (omega arith) ∙ ap (λ (x : ℕ). bit_and (w / 256) (mask n) * 2 ^ 8 + x) (and_high (w % 256) 7 1))
    in
    rw (a, byte_masked (bit_and (w / 256) (mask n)) (w % 256) (omega arith), masked n (w / 256))

pub word_masked : (w : ℕ) → eqb (bit_and w 0xFEFE_FEFE_FEFE_FEFE) 0 ≡ bits_only (bytes_of 8 w)
unfolding mask
word_masked w = masked 8 w

-- ---- the word of eight marks

-- the sum of n entries from i + k on times powers of 256
sum : ℕ → List ℕ → ℕ → ℕ → ℕ
sum zero l i k = 0
sum (suc n) l i k = get_or l (i + k) 0 + sum n l i (k + 1) * 256

bytes_sum : (n m r : ℕ) → m < 256 → bytes_of (suc n) (m + r * 256) ≡ m ∷ bytes_of n r
unfolding bytes_of
bytes_sum n m r h =
    let e : (m + r * 256) % 256 ≡ m = omega arith in
    let f : (m + r * 256) / 256 ≡ r = omega arith in
    rw (e, f)

module _ (l : List ℕ) (small : (k : ℕ) → get_or l k 0 < 256) (i : ℕ) where
  bytes_at : (n k : ℕ) → i + k + n ≤ length l → bytes_of n (sum n l i k) ≡ take n (drop (i + k) l)
  unfolding sum bytes_of
  bytes_at zero k h = refl
  bytes_at (suc n) k h =
      let e : i + k + 1 ≡ i + (k + 1) = omega arith in
      bytes_sum n (get_or l (i + k) 0) (sum n l i (k + 1)) (small (i + k))
      ∙ (ap (λ (x : List ℕ). get_or l (i + k) 0 ∷ x) (bytes_at n (k + 1) (omega arith)) ∙ sym (rw (drop-cons l (i + k) 0 (omega arith), ← add-one (i + k), e)))

  pub word_bytes : i + 8 ≤ length l → bytes_of 8 (word_at l i) ≡ take 8 (drop i l)
  unfolding sum
  word_bytes h =
      let z : i + 0 ≡ i = omega arith in
      let f : word_at l i ≡ sum 8 l i 0 = rw z (omega arith) in
      ap (bytes_of 8) f ∙ (bytes_at 8 0 (omega arith) ∙ ap (λ (k : ℕ). take 8 (drop k l)) z)

  -- a test of that word is one of the marks
  pub word_test : (w : ℕ) (b : Bool) → i + 8 ≤ length l → w ≡ word_at l i → b ≡ bits_only (bytes_of 8 w) → bits_only (take 8 (drop i l)) ≡ b
  word_test w b h e f = sym (f ∙ (ap (λ (x : ℕ). bits_only (bytes_of 8 x)) e ∙ ap bits_only (word_bytes h)))

-- ---- eight at once

module _ (l : List ℕ) (i : ℕ) where
  pub eight_on : bits_only (take 8 (drop i l)) ≡ true → bits_only (drop (i + 8) l) ≡ bits_only (drop i l)
  eight_on e = sym (bits_parts 8 (drop i l) ∙ rw (e, drop-drop 8 i l))

  pub eight_not : bits_only (take 8 (drop i l)) ≡ false → false ≡ bits_only (drop i l)
  eight_not e = sym (bits_parts 8 (drop i l) ∙ rw e)
