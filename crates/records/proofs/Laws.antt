-- The laws of a record's numbers and marks.
use Prim.Native.Nat.{ℕ, zero, suc, ◌+◌, ◌-◌, ◌*◌, ◌/◌, ◌^◌, ◌<◌, ◌≤◌}
use native.Mathlib.Omega.{arith}
use native.Mathlib.Nat.{pow-suc}
use native.Mathlib.Numerals.{add-one}
use mathlib.Core.Path.{◌≡◌, refl, ap, sym, ◌∙◌}
use mathlib.Core.Bool.{Bool, true, false, ◌&&◌, true≢false}
use mathlib.Core.List.{List, [], ◌∷◌}
use lib.Dec.{ltb}
use lib.ListN.{length, length-drop, get_or, set, take, drop, drop_of_length-le}
use lib.Seq.{drop-cons, get_or-drop, get_or-take, take-suc, take-suc-set, take_all, length-take-le}
use borrow.Author.Tests.{ltb-true}
use Rattle.window_marks.specs.Marks.{bits_only}
use Rattle.records.specs.Number.{number_at, first_numbers, numbers_of}
use Rattle.records.specs.Recorded.{word_of_marks}

-- ---- numbers

first_length : (n : ℕ) (b : List ℕ) → length (first_numbers n b) ≡ n
unfolding first_numbers
first_length zero b = refl
first_length (suc n) b = ap suc (first_length n (drop 4 b))

pub numbers_length : (b : List ℕ) → length (numbers_of b) ≡ length b / 4
unfolding numbers_of
numbers_length b = first_length (length b / 4) b

dropped : (b : List ℕ) (i : ℕ) → number_at (drop 4 b) i ≡ number_at b (4 + i)
dropped b i =
    let e₁ : 4 + (i + 1) ≡ 4 + i + 1 = omega arith in
    let e₂ : 4 + (i + 2) ≡ 4 + i + 2 = omega arith in
    let e₃ : 4 + (i + 3) ≡ 4 + i + 3 = omega arith in
    rw (get_or-drop 4 b i 0, get_or-drop 4 b (i + 1) 0, get_or-drop 4 b (i + 2) 0, get_or-drop 4 b (i + 3) 0, e₁, e₂, e₃)

first_at : (n : ℕ) (b : List ℕ) (i : ℕ) → i < n → get_or (first_numbers n b) i 0 ≡ number_at b (4 * i)
unfolding first_numbers
first_at zero b i h = absurd (omega arith)
first_at (suc n) b zero h = refl
first_at (suc n) b (suc i) h =
    let e : 4 + 4 * i ≡ 4 * suc i = omega arith in
    first_at n (drop 4 b) i (omega arith) ∙ (dropped b (4 * i) ∙ ap (number_at b) e)

pub number_nth : (b : List ℕ) (i : ℕ) → 4 * i + 4 ≤ length b → number_at b (4 * i) ≡ get_or (numbers_of b) i 0
unfolding numbers_of
number_nth b i h = sym (first_at (length b / 4) b i (omega arith))

-- ---- numbers copied one by one

module _ (b : List ℕ) (from n : ℕ) (h : 4 * (from + n) ≤ length b) where
  pub there : n ≤ length (drop from (numbers_of b))
  there = rw (length-drop from (numbers_of b), numbers_length b) (omega arith)

  pub part_length : length (take n (drop from (numbers_of b))) ≡ n
  part_length = length-take-le n (drop from (numbers_of b)) there

  pub part_at : (i : ℕ) → i < n → get_or (take n (drop from (numbers_of b))) i 0 ≡ get_or (numbers_of b) (from + i) 0
  part_at i k = get_or-take n (drop from (numbers_of b)) i 0 k ∙ get_or-drop from (numbers_of b) i 0

-- one more of them
pub one_more : (l p : List ℕ) (i x : ℕ) → i < length l → i < length p → x ≡ get_or p i 0 → take i l ≡ take i p
    → take (i + 1) (set l i x) ≡ take (i + 1) p
one_more l p i x h k z e = rw (z, add-one i, take-suc-set l i (get_or p i 0) h, take-suc p i 0 k, e)

-- and all
pub all_copied : (l p : List ℕ) (i : ℕ) → length l ≤ i → length p ≤ i → take i l ≡ take i p → l ≡ p
all_copied l p i h k e = sym (take_all i l h) ∙ (e ∙ take_all i p k)

-- ---- marks

-- the first mark and those after it
pub first_mark : (m : ℕ) (l : List ℕ) → bits_only (m ∷ l) ≡ true → (m < 2) × (bits_only l ≡ true)
unfolding bits_only
first_mark m l e = by (ltb m 2) refl e
  where
    by : (b : Bool) → ltb m 2 ≡ b → (b && bits_only l) ≡ true → (m < 2) × (bits_only l ≡ true)
    by true f g = (ltb-true m 2 f, g)
    by false f g = absurd (true≢false (sym g))

pub bits_at : (l : List ℕ) (i : ℕ) → bits_only l ≡ true → get_or l i 0 < 2
bits_at [] i e = omega arith
bits_at (m ∷ l) zero e = (first_mark m l e).0
bits_at (m ∷ l) (suc i) e = bits_at l i (first_mark m l e).1

-- ---- the word of marks

pub word_below : (n : ℕ) (l : List ℕ) → bits_only l ≡ true → length l ≤ n → word_of_marks l < 2 ^ n
unfolding word_of_marks bits_only
word_below zero [] e h = omega arith
word_below zero (m ∷ l) e h = absurd (omega arith)
word_below (suc n) [] e h = let z = word_below n [] refl (omega arith) in rw (pow-suc 2 n) (omega (arith, z))
word_below (suc n) (m ∷ l) e h =
    let t = first_mark m l e in
    let z = word_below n l t.1 (omega arith) in
    rw (pow-suc 2 n) (omega (arith, z, t.0))

bits_drop : (i : ℕ) (l : List ℕ) → bits_only l ≡ true → bits_only (drop i l) ≡ true
bits_drop zero l e = e
bits_drop (suc i) [] e = e
bits_drop (suc i) (m ∷ l) e = bits_drop i l (first_mark m l e).1

pub word_fits : (n i : ℕ) (l : List ℕ) → bits_only l ≡ true → length l ≡ n → word_of_marks (drop i l) < 2 ^ n
word_fits n i l e h = word_below n (drop i l) (bits_drop i l e) (rw (length-drop i l) (omega arith))

-- past the last mark
pub word_end : (i : ℕ) (l : List ℕ) → length l ≡ i → 0 ≡ word_of_marks (drop i l)
unfolding word_of_marks
word_end i l h = rw (drop_of_length-le l {i = i} (omega arith))

-- with the mark before
pub word_more : (l : List ℕ) (i w x : ℕ) → 0 < i → i ≤ length l → w ≡ word_of_marks (drop i l) → x ≡ get_or l (i - 1) 0
    → w * 2 + x ≡ word_of_marks (drop (i - 1) l)
unfolding word_of_marks
word_more l i w x p h e f =
    let z : suc (i - 1) ≡ i = omega arith in
    let k : i - 1 < length l = omega arith in
    let g : word_of_marks (drop (i - 1) l) ≡ word_of_marks (drop i l) * 2 + get_or l (i - 1) 0 =
    ap word_of_marks (drop-cons l (i - 1) 0 k) ∙ ap (λ (n : ℕ). word_of_marks (drop n l) * 2 + get_or l (i - 1) 0) z
    in
    rw (e, f) (sym g)

-- all of them
pub zero-drop : (i : ℕ) (l : List ℕ) → i ≡ 0 → word_of_marks (drop i l) ≡ word_of_marks l
zero-drop i l e = rw e
