-- Marks that are lent as bytes.
use Rattle.std.specs.Prelude.{ℕ, zero, suc, ◌+◌, ◌*◌, ◌/◌, ◌%◌, Bool, true, ◌&&◌, cond, List, [], ◌∷◌, eqb, ltb, get_or}

-- every mark is 0 or 1
unfoldable pub bits_only : List ℕ → Bool
bits_only [] = true
bits_only (m ∷ ms) = ltb m 2 && bits_only ms

-- how many marks are 1
abbrev pub is_one : ℕ → ℕ
is_one m = cond (eqb m 1) 1 0

unfoldable pub ones_of : List ℕ → ℕ
ones_of [] = 0
ones_of (m ∷ ms) = is_one m + ones_of ms

-- the lowest n bytes of a word, the lowest first
unfoldable pub bytes_of : ℕ → ℕ → List ℕ
bytes_of zero w = []
bytes_of (suc n) w = w % 256 ∷ bytes_of n (w / 256)

-- the word of the eight marks from i on, the first lowest
abbrev pub word_at : List ℕ → ℕ → ℕ
word_at l i =
    get_or l i 0
    + get_or l (i + 1) 0 * 0x100
    + get_or l (i + 2) 0 * 0x1_0000
    + get_or l (i + 3) 0 * 0x100_0000
    + get_or l (i + 4) 0 * 0x1_0000_0000
    + get_or l (i + 5) 0 * 0x100_0000_0000
    + get_or l (i + 6) 0 * 0x1_0000_0000_0000
    + get_or l (i + 7) 0 * 0x100_0000_0000_0000
