-- A line put together from its pieces.
use Prim.Native.Nat.{ℕ}
use mathlib.Core.Path.{◌≡◌, refl, ◌∙◌}
use mathlib.Core.Bool.{Bool}
use mathlib.Core.List.{List, ◌++◌}
use lib.ListN.{length, take, drop, set}
use borrow.Rule.Slice.PartMut.{put_mid}
use Rattle.numerals.specs.Number.{digits_text, hex_text}
use Rattle.sheet.specs.Line.{Line, line, spaces, letter_of, characters, line_text}
use Rattle.sheet.specs.Telling.{Forty}

-- a line with its number alone, and with its high word
abbrev numbered : List ℕ → List ℕ
numbered d = d ++ spaces 39

abbrev halved : List ℕ → List ℕ → List ℕ
halved d h = put_mid 3 8 (numbered d) h

module _ (n : ℕ) (d : List ℕ) (ed : d ≡ digits_text 10 2 n) where
  pub numbered-length : length (numbered d) ≡ 41
  unfolding digits_text
  numbered-length = rw ed

  module _ (high : ℕ) (h : List ℕ) (eh : h ≡ digits_text 16 (length (take 8 (drop 3 (numbered d)))) high) where
    first : h ≡ hex_text high
    unfolding digits_text hex_text
    first = eh ∙ rw ed

    pub halved-length : length (halved d h) ≡ 41
    unfolding digits_text hex_text
    halved-length = rw (first, ed)

    pub line_written : (low : ℕ) (l : List ℕ) (a b : ℕ) (high_known low_known : Bool)
        → l ≡ digits_text 16 (length (take 8 (drop 12 (halved d h)))) low → a ≡ letter_of high_known → b ≡ letter_of low_known
        → set (set (set (put_mid 12 8 (halved d h) l) 21 a) 22 b) 40 10 ≡ line_text (line n high low high_known low_known)
    unfolding digits_text hex_text characters line_text
    line_written low l a b high_known low_known el ea eb = rw (second, first, ed, ea, eb)
      where
        second : l ≡ hex_text low
        second = el ∙ rw (first, ed)

pub forty : Forty
unfolding digits_text hex_text characters
forty x = refl

pub line_length : (x : Line) → length (line_text x) ≡ 41
unfolding digits_text hex_text characters line_text
line_length x = refl
