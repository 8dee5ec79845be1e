-- A recorded cycle (2026-03): the count of instruction words and that of state words, the values of the state words, their marks, the base and the
-- instruction words. Bit 31 of the first number is set and no part of the count (2026-07): records of 52 places have it clear.
use Rattle.std.specs.Prelude.{ℕ, zero, suc, ◌+◌, ◌*◌, ◌/◌, ◌%◌, ◌^◌, ◌<◌, ◌≤◌, ◌≡◌, Bool, ◌&&◌, List, [], ◌∷◌, ◌++◌, eqb, leb, length, get_or, take, drop}
use Rattle.machine.specs.Place.{before}
use Rattle.records.specs.Number.{numbers_of, written}

pub record Recorded : Type 0 where
  pub values : List ℕ
  pub marks : List ℕ
  pub base : ℕ
  pub list : List ℕ

-- the bit that is set in the first number, and the count of instruction words without it
abbrev pub layout_bit : ℕ
layout_bit = 2 ^ 31

abbrev pub list_count : List ℕ → ℕ
list_count l = get_or l 0 0 % layout_bit

-- its numbers
unfoldable pub numbers_for : Recorded → List ℕ
numbers_for x = (layout_bit + length x.list) ∷ length x.values ∷ (x.values ++ (x.marks ++ (x.base ∷ x.list)))

-- and what numbers record
unfoldable pub recorded_in : List ℕ → Recorded
recorded_in l =
    let words = get_or l 1 0 in
    record {
      values = take words (drop 2 l);
      marks = take words (drop (2 + words) l);
      base = get_or l (2 + 2 * words) 0;
      list = take (list_count l) (drop (3 + 2 * words) l);
    }

-- the bytes of a record, and what bytes record
abbrev pub to_bytes : Recorded → List ℕ
to_bytes x = written (numbers_for x)

abbrev pub of_bytes : List ℕ → Recorded
of_bytes b = recorded_in (numbers_of b)

-- whether that bit is set, and there are as many bytes as the two counts call for
unfoldable pub sized : List ℕ → Bool
sized b = let l = numbers_of b in leb layout_bit (get_or l 0 0) && eqb (length b) (4 * (3 + 2 * get_or l 1 0 + list_count l))

-- a record that can be written: as many marks as values, a count that leaves bit 31 free, and every number of 32 bits
pub record Writable (x : Recorded) : Type 0 where
  pub marked : length x.marks ≡ length x.values
  pub listed : length x.list < layout_bit
  pub stated : length x.values < 2 ^ 32
  pub numbers : (n : ℕ) → get_or (numbers_for x) n 0 < 2 ^ 32

-- the word of marks, of which the first is the lowest bit
unfoldable pub word_of_marks : List ℕ → ℕ
word_of_marks [] = 0
word_of_marks (m ∷ ms) = word_of_marks ms * 2 + m

-- and the first n marks of a word
unfoldable pub marks_of_word : ℕ → ℕ → List ℕ
marks_of_word zero w = []
marks_of_word (suc n) w = w % 2 ∷ marks_of_word n (w / 2)

-- the record of a state's words, the word of their marks, a window with its marks, a base and a list
abbrev pub record_of : List ℕ → ℕ → List ℕ → List ℕ → ℕ → List ℕ → Recorded
record_of state m window marks base list = record { values = state ++ window; marks = marks_of_word before m ++ marks; base = base; list = list }

-- what the writer asks of them and of the buffer: as many of each as there should be, counts of 31 and 32 bits, and room
pub record Fits (state window marks list to : List ℕ) : Type 0 where
  pub places : length state ≡ before
  pub marked : length marks ≡ length window
  pub stated : before + length window < 2 ^ 32
  pub listed : length list < layout_bit
  pub room : 4 * (3 + 2 * (before + length window) + length list) ≤ length to

-- what it gives: the count of bytes, and the buffer with the record's bytes at its start, as it was past them
pub record Wrote (x : Recorded) (to : List ℕ) (n : ℕ) (now : List ℕ) : Type 0 where
  pub count : n ≡ 4 * (3 + 2 * length x.values + length x.list)
  pub bytes : take n now ≡ to_bytes x
  pub rest : drop n now ≡ drop n to
