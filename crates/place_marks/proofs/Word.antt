-- The laws of the word of marks: what a place's bit is, what setting it does to the map, and that the bits above the last place say nothing.
use mathlib.Core.Path.{◌≡◌, refl, sym, ap, ap₂, ◌∙◌}
use mathlib.Core.Bool.{Bool, true, false}
use mathlib.Core.List.{List, [], ◌∷◌, ◌++◌}
use Prim.Native.Nat.{ℕ, zero, suc, ◌+◌, ◌*◌, ◌/◌, ◌%◌, ◌^◌, ◌<◌, ◌≤◌}
use native.Mathlib.Omega.{arith}
use native.Mathlib.Nat.{pow-suc, mul_comm, div-div-eq-div-mul, div-one, mod-one}
use native.Mathlib.Numerals.{add-one}
use lib.Dec.{eqb}
use lib.Arith.{mod-mul}
use lib.Pow.{pow_pos}
use lib.ListN.{length, get_or, set, take, drop, length-append}
use lib.Seq.{take_at, drop_at, get_or-append-add}
use Rattle.bits.specs.Field.{bit_of}
use Rattle.bits.specs.Psr.{one_of}
use Rattle.machine.specs.Place.{place, before, word}
use Rattle.meaning.specs.Map.{Marks, known, mark, map_of}
use Rattle.place_marks.specs.Word.{bits_from, marks_of, map_in, number_of, word_of, with_bit}
use Rattle.place_marks.proofs.Places.{place-single, place-core, place-flags, place-control, place-exc, place-nzcv, place-exceptions, by_number}

-- ---- bits of a number with another bit

pub half : (h c : ℕ) → c < 2 → (h * 2 + c) / 2 ≡ h
half h c l = omega arith

pub odd : (h c : ℕ) → c < 2 → (h * 2 + c) % 2 ≡ c
odd h c l = omega arith

pub one_lt : (b : Bool) → one_of b < 2
one_lt true = omega arith
one_lt false = omega arith

pub bit_value : (k : ℕ) → k < 2 → one_of (eqb k 1) ≡ k
bit_value zero h = refl
bit_value (suc zero) h = refl
bit_value (suc (suc k)) h = absurd (omega arith)

one_is : (b : Bool) → eqb (one_of b) 1 ≡ b
one_is true = refl
one_is false = refl

bit_zero : (m : ℕ) → bit_of m 0 ≡ eqb (m % 2) 1
bit_zero m = ap (λ (x : ℕ). eqb (x % 2) 1) (div-one m)

bit_suc : (m j : ℕ) → bit_of m (suc j) ≡ bit_of (m / 2) j
bit_suc m j = ap (λ (x : ℕ). eqb (x % 2) 1) (ap (λ (x : ℕ). m / x) (pow-suc 2 j ∙ mul_comm (2 ^ j) 2) ∙ sym (div-div-eq-div-mul m 2 (2 ^ j)))

pub bit_same : (m p : ℕ) (b : Bool) → bit_of (with_bit m p b) p ≡ b
unfolding with_bit
bit_same m zero b = bit_zero (m / 2 * 2 + one_of b) ∙ rw (odd (m / 2) (one_of b) (one_lt b)) (one_is b)
bit_same m (suc p) b =
    bit_suc (with_bit (m / 2) p b * 2 + m % 2) p ∙ ap (λ (x : ℕ). bit_of x p) (half (with_bit (m / 2) p b) (m % 2) (omega arith)) ∙ bit_same (m / 2) p b

pub bit_other : (m p : ℕ) (b : Bool) (j : ℕ) → (j ≡ p → ⊥) → bit_of (with_bit m p b) j ≡ bit_of m j
unfolding with_bit
bit_other m zero b zero n = absurd (n refl)
bit_other m zero b (suc j) n = bit_suc (m / 2 * 2 + one_of b) j ∙ ap (λ (x : ℕ). bit_of x j) (half (m / 2) (one_of b) (one_lt b)) ∙ sym (bit_suc m j)
bit_other m (suc p) b zero n =
    bit_zero (with_bit (m / 2) p b * 2 + m % 2) ∙ ap (λ (x : ℕ). eqb x 1) (odd (with_bit (m / 2) p b) (m % 2) (omega arith)) ∙ sym (bit_zero m)
bit_other m (suc p) b (suc j) n =
    bit_suc (with_bit (m / 2) p b * 2 + m % 2) j ∙ ap (λ (x : ℕ). bit_of x j) (half (with_bit (m / 2) p b) (m % 2) (omega arith))
    ∙ bit_other (m / 2) p b j (λ e. n (ap suc e)) ∙ sym (bit_suc m j)

pub next : (m i : ℕ) → m / 2 ^ suc i ≡ m / 2 ^ i / 2
next m i = ap (λ (x : ℕ). m / x) (pow-suc 2 i) ∙ sym (div-div-eq-div-mul m (2 ^ i) 2)

-- ---- bits in a row

get_bits : (n i m j : ℕ) → j < n → get_or (bits_from n i m) j false ≡ bit_of m (i + j)
unfolding bits_from
get_bits zero i m j h = absurd (omega arith)
get_bits (suc n) i m zero h = let e : i + 0 ≡ i = omega arith in rw e
get_bits (suc n) i m (suc j) h = let e : i + 1 + j ≡ i + suc j = omega arith in get_bits n (i + 1) m j (omega arith) ∙ rw e

-- a bit outside the row leaves it as it is
bits_other : (n i m p : ℕ) (b : Bool) → ((j : ℕ) → j < n → i + j ≡ p → ⊥) → bits_from n i (with_bit m p b) ≡ bits_from n i m
unfolding bits_from
bits_other zero i m p b h = refl
bits_other (suc n) i m p b h =
    ap₂ (λ (x : Bool) (l : List Bool). x ∷ l) (bit_other m p b i (λ e. h 0 (omega arith) (omega (arith, e))))
    (bits_other n (i + 1) m p b (λ j l e. h (suc j) (omega arith) (omega (arith, e))))

bits_set : (n i m j : ℕ) (b : Bool) → j < n → bits_from n i (with_bit m (i + j) b) ≡ set (bits_from n i m) j b
unfolding bits_from
bits_set zero i m j b h = absurd (omega arith)
bits_set (suc n) i m zero b h =
    let e : i + 0 ≡ i = omega arith in
    ap₂ (λ (x : Bool) (l : List Bool). x ∷ l) (rw e (bit_same m i b)) (bits_other n (i + 1) m (i + 0) b (λ j l q. omega (arith, q)))
bits_set (suc n) i m (suc j) b h =
    let e : i + suc j ≡ i + 1 + j = omega arith in
    ap₂ (λ (x : Bool) (l : List Bool). x ∷ l) (bit_other m (i + suc j) b i (λ q. omega (arith, q)))
    (rw e (bits_set n (i + 1) m j b (omega arith)))

-- ---- the map in the word

-- a place is known when its bit is set
pub known_in_lem : (m : ℕ) (w : List ℕ) (n : ℕ) → n < before → known (map_in m w) (place n) ≡ bit_of m n
unfolding marks_of map_in
known_in_lem m w =
    by_number (λ (n : ℕ). known (map_in m w) (place n) ≡ bit_of m n)
    (λ n h. let e : 0 + n ≡ n = omega arith in rw (place-single n h) (get_bits 32 0 m n h ∙ rw e))
    (λ n h. rw (place-core n h) (get_bits 16 32 m n h))
    (rw place-flags)
    (rw place-control)
    (rw place-exc)
    (rw place-nzcv)
    (rw place-exceptions)

module _ (m : ℕ) (w : List ℕ) (b : Bool) where
  -- the bit of a place among the five that are no array
  alone : (p : ℕ) → 48 ≤ p → (bits_from 32 0 (with_bit m p b) ≡ bits_from 32 0 m) × (bits_from 16 32 (with_bit m p b) ≡ bits_from 16 32 m)
  alone p h = (bits_other 32 0 m p b (λ j l e. omega (arith, e)), bits_other 16 32 m p b (λ j l e. omega (arith, e)))

  other : (p q : ℕ) → (q ≡ p → ⊥) → bit_of (with_bit m p b) q ≡ bit_of m q
  other p q n = bit_other m p b q n

  -- setting or clearing a place's bit marks the place
  pub mark_in : (n : ℕ) → n < before → map_in (with_bit m n b) w ≡ mark (map_in m w) (place n) b
  unfolding marks_of map_in
  mark_in =
      by_number (λ (n : ℕ). map_in (with_bit m n b) w ≡ mark (map_in m w) (place n) b)
      (λ n h. let z : 0 + n ≡ n = omega arith in rw (place-single n h, rw z at (bits_set 32 0 m n b h), bits_other 16 32 m n b (λ j l e. omega (arith, e)), other n 48 (λ e. omega (arith, e)), other n 49 (λ e. omega (arith, e)), other n 50 (λ e. omega (arith, e)), other n 51 (λ e. omega (arith, e)), other n 52 (λ e. omega (arith, e))))
      (λ n h. rw (place-core n h, bits_other 32 0 m (32 + n) b (λ j l e. omega (arith, e)), bits_set 16 32 m n b h, other (32 + n) 48 (λ e. omega (arith, e)), other (32 + n) 49 (λ e. omega (arith, e)), other (32 + n) 50 (λ e. omega (arith, e)), other (32 + n) 51 (λ e. omega (arith, e)), other (32 + n) 52 (λ e. omega (arith, e))))
      (rw (place-flags, (alone 48 (omega arith)).0, (alone 48 (omega arith)).1, bit_same m 48 b, other 48 49 (λ e. omega (arith, e)), other 48 50 (λ e. omega (arith, e)), other 48 51 (λ e. omega (arith, e)), other 48 52 (λ e. omega (arith, e))))
      (rw (place-control, (alone 49 (omega arith)).0, (alone 49 (omega arith)).1, bit_same m 49 b, other 49 48 (λ e. omega (arith, e)), other 49 50 (λ e. omega (arith, e)), other 49 51 (λ e. omega (arith, e)), other 49 52 (λ e. omega (arith, e))))
      (rw (place-exc, (alone 50 (omega arith)).0, (alone 50 (omega arith)).1, bit_same m 50 b, other 50 48 (λ e. omega (arith, e)), other 50 49 (λ e. omega (arith, e)), other 50 51 (λ e. omega (arith, e)), other 50 52 (λ e. omega (arith, e))))
      (rw (place-nzcv, (alone 51 (omega arith)).0, (alone 51 (omega arith)).1, bit_same m 51 b, other 51 48 (λ e. omega (arith, e)), other 51 49 (λ e. omega (arith, e)), other 51 50 (λ e. omega (arith, e)), other 51 52 (λ e. omega (arith, e))))
      (rw (place-exceptions, (alone 52 (omega arith)).0, (alone 52 (omega arith)).1, bit_same m 52 b, other 52 48 (λ e. omega (arith, e)), other 52 49 (λ e. omega (arith, e)), other 52 50 (λ e. omega (arith, e)), other 52 51 (λ e. omega (arith, e))))

-- a window word's mark stands beside the word of marks
pub known-word : (m : ℕ) (w : List ℕ) (n : ℕ) → known (map_in m w) (word n) ≡ eqb (get_or w n 1) 1
unfolding map_in
known-word m w n = refl

pub mark-word : (m : ℕ) (w : List ℕ) (n : ℕ) (b : Bool) → map_in m (set w n (one_of b)) ≡ mark (map_in m w) (word n) b
unfolding map_in
mark-word m w n b = refl

-- ---- the word of the marks that a word holds

joined : (m n i k : ℕ) → bits_from n i m ++ bits_from k (i + n) m ≡ bits_from (n + k) i m
unfolding bits_from
joined m zero i k = let e : i + 0 ≡ i = omega arith in let z : 0 + k ≡ k = omega arith in rw (e, z)
joined m (suc n) i k =
    let e : i + suc n ≡ i + 1 + n = omega arith in
    let z : suc n + k ≡ suc (n + k) = omega arith in
    rw (e, z) (ap (λ (l : List Bool). bit_of m i ∷ l) (joined m n (i + 1) k))

digits : (x n : ℕ) → x % 2 ^ suc n ≡ x / 2 % 2 ^ n * 2 + x % 2
digits x n = ap (λ (y : ℕ). x % y) (pow-suc 2 n) ∙ mod-mul x (pow_pos n) (omega arith)

number_bits : (n i m : ℕ) → number_of (bits_from n i m) ≡ m / 2 ^ i % 2 ^ n
unfolding bits_from number_of
number_bits zero i m = sym (mod-one (m / 2 ^ i))
number_bits (suc n) i m = rw (number_bits n (i + 1) m, bit_value (m / 2 ^ i % 2) (omega arith), add-one i, next m i) (sym (digits (m / 2 ^ i) n))

-- the word of marks again, without the bits above the last place
pub word_marks : (m : ℕ) → word_of (marks_of m) ≡ m % 2 ^ before
unfolding word_of marks_of bits_from
word_marks m = rw (joined m 16 32 5, joined m 32 0 21) (number_bits before 0 m ∙ ap (λ (x : ℕ). x % 2 ^ before) (div-one m))

-- ---- bits above the last place say nothing

bit_below : (m k j : ℕ) → j < k → bit_of (m % 2 ^ k) j ≡ bit_of m j
bit_below m zero j h = absurd (omega arith)
bit_below m (suc k) zero h = bit_zero (m % 2 ^ suc k) ∙ rw (digits m k, odd (m / 2 % 2 ^ k) (m % 2) (omega arith)) (sym (bit_zero m))
bit_below m (suc k) (suc j) h =
    bit_suc (m % 2 ^ suc k) j ∙ rw (digits m k, half (m / 2 % 2 ^ k) (m % 2) (omega arith)) (bit_below (m / 2) k j (omega arith) ∙ sym (bit_suc m j))

bits_below : (n i m k : ℕ) → i + n ≤ k → bits_from n i (m % 2 ^ k) ≡ bits_from n i m
unfolding bits_from
bits_below zero i m k h = refl
bits_below (suc n) i m k h = ap₂ (λ (x : Bool) (l : List Bool). x ∷ l) (bit_below m k i (omega arith)) (bits_below n (i + 1) m k (omega arith))

pub marks_below : (m : ℕ) → marks_of (m % 2 ^ before) ≡ marks_of m
unfolding marks_of
marks_below m =
    rw (bits_below 32 0 m before (omega arith), bits_below 16 32 m before (omega arith), bit_below m before 48 (omega arith), bit_below m before 49 (omega arith), bit_below m before 50 (omega arith), bit_below m before 51 (omega arith), bit_below m before 52 (omega arith))

-- two words that differ above the last place alone are one map
pub same_map : (m n : ℕ) (w : List ℕ) → m % 2 ^ before ≡ n % 2 ^ before → map_in m w ≡ map_in n w
unfolding map_in
same_map m n w e = rw (sym (marks_below m) ∙ ap marks_of e ∙ marks_below n)

-- the window's marks stand beside the word
pub words_in : (m : ℕ) (w : List ℕ) → (map_in m w).words ≡ w
unfolding map_in
words_in m w = refl

-- as many marks as there are places
bits_length : (n i m : ℕ) → length (bits_from n i m) ≡ n
unfolding bits_from
bits_length zero i m = refl
bits_length (suc n) i m = rw (bits_length n (i + 1) m)

pub singles_marked : (m : ℕ) (w : List ℕ) → length (map_in m w).marks.s ≡ 32
unfolding map_in marks_of
singles_marked m w = bits_length 32 0 m

pub cores_marked : (m : ℕ) (w : List ℕ) → length (map_in m w).marks.r ≡ 16
unfolding map_in marks_of
cores_marked m w = bits_length 16 32 m

-- ---- the marks of the word of marks

bit_number : (l : List Bool) (i : ℕ) → bit_of (number_of l) i ≡ get_or l i false
unfolding number_of
bit_number [] zero = refl
bit_number [] (suc i) = bit_suc 0 i ∙ bit_number [] i
bit_number (b ∷ l) zero = bit_zero (number_of l * 2 + one_of b) ∙ rw (odd (number_of l) (one_of b) (one_lt b)) (one_is b)
bit_number (b ∷ l) (suc i) = bit_suc (number_of l * 2 + one_of b) i ∙ rw (half (number_of l) (one_of b) (one_lt b)) (bit_number l i)

-- a row of them is a part of the list
row : (l : List Bool) (n i : ℕ) → i + n ≤ length l → bits_from n i (number_of l) ≡ take n (drop i l)
unfolding bits_from
row l zero i h = refl
row l (suc n) i h =
    ap₂ (λ (x : Bool) (r : List Bool). x ∷ r) (bit_number l i) (row l n (i + 1) (omega arith)) ∙ sym (one_more l i n (omega arith))
  where
    one_more : (l : List Bool) (i n : ℕ) → i < length l → take (suc n) (drop i l) ≡ get_or l i false ∷ take n (drop (i + 1) l)
    one_more [] i n h = absurd (omega arith)
    one_more (x ∷ l) zero n h = refl
    one_more (x ∷ l) (suc i) n h = let e : suc i + 1 ≡ suc (i + 1) = omega arith in rw e (one_more l i n (omega arith))

module _ (k : Marks) (hs : length k.s ≡ 32) (hr : length k.r ≡ 16) where
  abbrev tail : List Bool
  tail = k.flags ∷ k.control ∷ k.exc ∷ k.nzcv ∷ k.exceptions ∷ []

  abbrev all : List Bool
  all = k.s ++ (k.r ++ tail)

  all-length : length all ≡ before
  all-length = length-append k.s (k.r ++ tail) ∙ rw (length-append k.r tail, hs, hr)

  late : (i : ℕ) → get_or all (48 + i) false ≡ get_or tail i false
  late i =
      let e : 48 + i ≡ length k.s + (length k.r + i) = omega (arith, hs, hr) in
      rw e (get_or-append-add k.s (k.r ++ tail) (length k.r + i) false ∙ get_or-append-add k.r tail i false)

  pub marks_word : marks_of (word_of k) ≡ k
  unfolding marks_of word_of
  marks_word =
      rw (row all 32 0 (omega (arith, all-length)), row all 16 32 (omega (arith, all-length)), take_at k.s (k.r ++ tail) 32 hs, drop_at k.s (k.r ++ tail) 32 hs, take_at k.r tail 16 hr, bit_number all 48, bit_number all 49, bit_number all 50, bit_number all 51, bit_number all 52, late 0, late 1, late 2, late 3, late 4)

  -- a place is known when its bit of that word is set
  pub known_of : (w : List ℕ) (n : ℕ) → n < before → known (map_of k w) (place n) ≡ bit_of (word_of k) n
  unfolding map_in
  known_of w n h = ap (λ (x : Marks). known (map_of x w) (place n)) (sym marks_word) ∙ known_in_lem (word_of k) w n h
