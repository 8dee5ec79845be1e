-- Marks in a word, and a word's marks: each way back.
use Prim.Native.Nat.{ℕ, zero, suc, ◌+◌, ◌*◌, ◌/◌, ◌%◌, ◌^◌, ◌<◌}
use native.Mathlib.Omega.{arith}
use native.Mathlib.Nat.{pow-suc, mul_comm, div-div-eq-div-mul, div-one, mod-one}
use native.Mathlib.Numerals.{add-one}
use mathlib.Core.Path.{◌≡◌, refl, ap, sym, ◌∙◌}
use mathlib.Core.Bool.{true}
use mathlib.Core.List.{List, [], ◌∷◌}
use lib.Arith.{mod-mul}
use lib.ListN.{length, get_or}
use lib.Pow.{pow_pos}
use borrow.Author.Tests.{lt-ltb}
use Rattle.window_marks.specs.Marks.{bits_only}
use Rattle.records.specs.Recorded.{word_of_marks, marks_of_word}
use Rattle.records.proofs.Laws.{first_mark}

-- the word of a word's first n marks has its bits below bit n
pub word_of_marks_lem : (n w : ℕ) → word_of_marks (marks_of_word n w) ≡ w % 2 ^ n
unfolding word_of_marks marks_of_word
word_of_marks_lem zero w = sym (mod-one w)
word_of_marks_lem (suc n) w =
    let e : w % 2 ^ suc n ≡ w / 2 % 2 ^ n * 2 + w % 2 = ap (λ (y : ℕ). w % y) (pow-suc 2 n) ∙ mod-mul w (pow_pos n) (omega arith) in
    rw (word_of_marks_lem n (w / 2)) (sym e)

-- and the marks of the word of marks are these
pub marks_of_word_lem : (l : List ℕ) → bits_only l ≡ true → marks_of_word (length l) (word_of_marks l) ≡ l
unfolding word_of_marks marks_of_word
marks_of_word_lem [] e = refl
marks_of_word_lem (m ∷ l) e =
    let t = first_mark m l e in
    let p : (word_of_marks l * 2 + m) % 2 ≡ m = omega (arith, t.0) in
    let q : (word_of_marks l * 2 + m) / 2 ≡ word_of_marks l = omega (arith, t.0) in
    rw (p, q, marks_of_word_lem l t.1)

-- a word's marks are 0 or 1
pub marks_bits : (n w : ℕ) → bits_only (marks_of_word n w) ≡ true
unfolding marks_of_word bits_only
marks_bits zero w = refl
marks_bits (suc n) w = rw (lt-ltb (w % 2) 2 (omega arith), marks_bits n (w / 2))

pub marks_length : (n w : ℕ) → length (marks_of_word n w) ≡ n
unfolding marks_of_word
marks_length zero w = refl
marks_length (suc n) w = ap suc (marks_length n (w / 2))

-- mark i is bit i
pub mark_at : (n w i : ℕ) → i < n → get_or (marks_of_word n w) i 0 ≡ w / 2 ^ i % 2
unfolding marks_of_word
mark_at zero w i h = absurd (omega arith)
mark_at (suc n) w zero h = sym (ap (λ (x : ℕ). x % 2) (div-one w))
mark_at (suc n) w (suc i) h =
    let e : w / 2 / 2 ^ i ≡ w / 2 ^ suc i = div-div-eq-div-mul w 2 (2 ^ i) ∙ ap (λ (x : ℕ). w / x) (mul_comm 2 (2 ^ i) ∙ sym (pow-suc 2 i)) in
    mark_at n (w / 2) i (omega arith) ∙ ap (λ (x : ℕ). x % 2) e

pub next_mark : (w i r : ℕ) → r ≡ w / 2 ^ i → r / 2 ≡ w / 2 ^ (i + 1)
next_mark w i r e = rw (e, add-one i) (div-div-eq-div-mul w (2 ^ i) 2 ∙ ap (λ (x : ℕ). w / x) (sym (pow-suc 2 i)))

pub first_bit : (w : ℕ) → w ≡ w / 2 ^ 0
first_bit w = sym (div-one w)

pub mark_is : (n w i r x : ℕ) → i < n → r ≡ w / 2 ^ i → x ≡ r % 2 → x ≡ get_or (marks_of_word n w) i 0
mark_is n w i r x h e f = f ∙ (ap (λ (y : ℕ). y % 2) e ∙ sym (mark_at n w i h))
