-- Numbers of 32 bits as bytes, little end first.
use Rattle.std.specs.Prelude.{ℕ, zero, suc, ◌+◌, ◌*◌, ◌/◌, List, [], ◌∷◌, ◌++◌, length, get_or, take, drop}
use Rattle.window_marks.specs.Marks.{bytes_of}

-- the number whose lowest byte is the i-th
abbrev pub number_at : List ℕ → ℕ → ℕ
number_at b i = get_or b i 0 + get_or b (i + 1) 0 * 0x100 + get_or b (i + 2) 0 * 0x1_0000 + get_or b (i + 3) 0 * 0x100_0000

-- the first n numbers
unfoldable pub first_numbers : ℕ → List ℕ → List ℕ
first_numbers zero b = []
first_numbers (suc n) b = number_at b 0 ∷ first_numbers n (drop 4 b)

-- all of them
unfoldable pub numbers_of : List ℕ → List ℕ
numbers_of b = first_numbers (length b / 4) b

-- and their bytes again
unfoldable pub written : List ℕ → List ℕ
written [] = []
written (x ∷ xs) = bytes_of 4 x ++ written xs

-- a buffer in which bytes stand from a position on; all before and after them stays
abbrev pub laid : List ℕ → ℕ → List ℕ → List ℕ
laid to at bytes = take at to ++ bytes ++ drop (at + length bytes) to
