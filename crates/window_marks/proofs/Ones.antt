-- The laws of the number of ones among marks: one by one, eight at once, and where a mark changes.
use Prim.Native.Nat.{ℕ, zero, suc, ◌+◌, ◌*◌, ◌/◌, ◌%◌, ◌^◌, ◌<◌, ◌≤◌}
use native.Mathlib.Omega.{arith}
use native.Mathlib.Nat.{pow-suc}
use native.Mathlib.Numerals.{add-one}
use mathlib.Core.Path.{◌≡◌, refl, ap, sym, ◌∙◌}
use mathlib.Core.Bool.{Bool, true, false, cond, ◌&&◌}
use mathlib.Core.List.{List, [], ◌∷◌}
use lib.Dec.{eqb, ltb}
use lib.ListN.{length, get_or, set, take, drop, drop_of_length-le}
use lib.Seq.{drop-cons, drop-drop}
use borrow.Author.Tests.{ltb-true}
use Rattle.window_marks.specs.Marks.{bits_only, is_one, ones_of, bytes_of, word_at}
use Rattle.window_marks.proofs.Bytes.{word_bytes, word_test, eight_on, eight_not}

-- ---- one mark

pub one_le : (m : ℕ) → is_one m ≤ 1
one_le m = by (eqb m 1)
  where
    by : (b : Bool) → cond b 1 0 ≤ 1
    by true = omega arith
    by false = omega arith

pub bit_one : (m : ℕ) → m ≤ 1 → is_one m ≡ m
bit_one zero h = refl
bit_one (suc zero) h = refl
bit_one (suc (suc m)) h = absurd (omega arith)

-- ---- one by one

pub ones_le : (l : List ℕ) → ones_of l ≤ length l
unfolding ones_of
ones_le [] = omega arith
ones_le (m ∷ l) = omega (arith, one_le m, ones_le l)

pub ones_end : (l : List ℕ) (i : ℕ) → length l ≤ i → ones_of (drop i l) ≡ 0
unfolding ones_of
ones_end l i h = rw (drop_of_length-le l h)

pub ones_on : (l : List ℕ) (i : ℕ) → i < length l → ones_of (drop i l) ≡ is_one (get_or l i 0) + ones_of (drop (i + 1) l)
unfolding ones_of
ones_on l i h = rw (add-one i, drop-cons l i 0)

-- before the first
pub ones_none : (l : List ℕ) → 0 + ones_of (drop 0 l) ≡ ones_of l
ones_none l = omega arith

-- a mark that changes
pub ones_set : (l : List ℕ) (i v : ℕ) → i < length l → ones_of (set l i v) + is_one (get_or l i 0) ≡ ones_of l + is_one v
unfolding ones_of
ones_set [] i v h = absurd (omega arith)
ones_set (m ∷ l) zero v h = omega arith
ones_set (m ∷ l) (suc i) v h = let e = ones_set l i v (omega arith) in omega (arith, e)

-- ---- several at once

ones_parts : (n : ℕ) (l : List ℕ) → ones_of l ≡ ones_of (take n l) + ones_of (drop n l)
unfolding ones_of
ones_parts zero l = omega arith
ones_parts (suc n) [] = refl
ones_parts (suc n) (m ∷ l) = let e = ones_parts n l in omega (arith, e)

eight_ones : (l : List ℕ) (i : ℕ) → ones_of (drop i l) ≡ ones_of (take 8 (drop i l)) + ones_of (drop (i + 8) l)
eight_ones l i = ones_parts 8 (drop i l) ∙ rw (drop-drop 8 i l)

-- ---- the bytes of a word

pub differ : false ≡ true → ⊥
differ e = let z : ◌≡◌ {A = ℕ} 0 1 = cc in omega arith

both : (a b : Bool) → (a && b) ≡ true → (a ≡ true) × (b ≡ true)
both true b e = (refl, e)
both false b e = absurd (differ e)

-- 256 is 1 more than 255
quotient : ℕ → ℕ → ℕ
quotient zero w = 0
quotient (suc n) w = w / 256 + quotient n (w / 256)

counted : (n w : ℕ) → w < 256 ^ n → bits_only (bytes_of n w) ≡ true → (w ≡ 255 * quotient n w + ones_of (bytes_of n w)) × (ones_of (bytes_of n w) ≤ n)
unfolding quotient bits_only bytes_of ones_of
counted zero w h e = (omega arith, omega arith)
counted (suc n) w h e =
    let p = both (ltb (w % 256) 2) (bits_only (bytes_of n (w / 256))) e in
    let l : w % 256 < 2 = ltb-true (w % 256) 2 p.0 in
    let k : w / 256 < 256 ^ n = (let x : w < 256 ^ n * 256 = rw (← pow-suc 256 n) h in omega (arith, x)) in
    let f = counted n (w / 256) k p.1 in
    let g : is_one (w % 256) ≡ w % 256 = bit_one (w % 256) (omega (arith, l)) in
    (omega (arith, f.0, g), omega (arith, f.1, g, l))

word_ones : (w : ℕ) → w < 2 ^ 64 → bits_only (bytes_of 8 w) ≡ true → (w % 255 ≡ ones_of (bytes_of 8 w)) × (w % 255 ≤ 8)
word_ones w h e =
    let f = counted 8 w h e in
    (omega (arith, f.0, f.1), omega (arith, f.0, f.1))

-- such a word is small
ones_small : (n w : ℕ) → w < 256 ^ n → bits_only (bytes_of n w) ≡ true → 255 * w + 1 ≤ 256 ^ n
unfolding bits_only bytes_of
ones_small zero w h e = omega arith
ones_small (suc n) w h e =
    let p = both (ltb (w % 256) 2) (bits_only (bytes_of n (w / 256))) e in
    let l : w % 256 < 2 = ltb-true (w % 256) 2 p.0 in
    let k : w / 256 < 256 ^ n = (let x : w < 256 ^ n * 256 = rw (← pow-suc 256 n) h in omega (arith, x)) in
    let f = ones_small n (w / 256) k p.1 in
    rw (pow-suc 256 n) (omega (arith, f, l))

word_small : (w : ℕ) → w < 2 ^ 64 → bits_only (bytes_of 8 w) ≡ true → w < 2 ^ 57
word_small w h e = let f = ones_small 8 w h e in omega (arith, f)

-- a word more in a sum of such words
pub sum_on : (s w k : ℕ) → s % 255 ≤ k → k + 8 < 255 → w % 255 ≤ 8 → (s + w) % 255 ≡ s % 255 + w % 255
sum_on s w k p q r = omega (arith, p, q, r)

-- ---- the word of eight marks

module _ (l : List ℕ) (small : (k : ℕ) → get_or l k 0 < 256) (i w : ℕ) (h : i + 8 ≤ length l) (e : w ≡ word_at l i) where
  same_ones : ones_of (take 8 (drop i l)) ≡ ones_of (bytes_of 8 w)
  same_ones = sym (ap (λ (x : ℕ). ones_of (bytes_of 8 x)) e ∙ ap ones_of (word_bytes l small i h))

  pub word_on : w < 2 ^ 64 → bits_only (bytes_of 8 w) ≡ true
      → (bits_only (drop (i + 8) l) ≡ bits_only (drop i l)) × (w % 255 + ones_of (drop (i + 8) l) ≡ ones_of (drop i l)) × (w % 255 ≤ 8) × (w < 2 ^ 57)
  word_on k b =
      let f = word_ones w k b in
      (eight_on l i (word_test l small i w true h e (sym b)), omega (arith, f.0, same_ones, eight_ones l i), f.1, word_small w k b)

  pub word_not : bits_only (bytes_of 8 w) ≡ false → bits_only (drop i l) ≡ false
  word_not b = sym (eight_not l i (word_test l small i w false h e (sym b)))
