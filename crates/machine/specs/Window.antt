-- The window (document 01's term): words of memory from a base on.
use Rattle.std.specs.Prelude.{ℕ, ◌+◌, ◌-◌, ◌*◌, ◌/◌, ◌%◌, ◌^◌, Bool, cond, ◌&&◌, List, leb, ltb, length, get_or, set}

-- an address without its low two bits
abbrev pub aligned : ℕ → ℕ
aligned a = a / 4 * 4

-- base ≤ address < base + 4 × words
abbrev pub from_base : ℕ → ℕ → Bool
from_base base a = leb base (aligned a)

abbrev pub before_end : ℕ → ℕ → ℕ → Bool
before_end base words a = ltb (aligned a) (base + 4 * words)

abbrev pub inside : ℕ → ℕ → ℕ → Bool
inside base words a = from_base base a && before_end base words a

-- what is read at an address: 0 outside
abbrev pub read_at : ℕ → List ℕ → ℕ → ℕ
read_at base window a = cond (inside base (length window) a) (get_or window ((aligned a - base) / 4) 0) 0

-- the window after a write at an address: dropped outside
abbrev pub written_at : ℕ → List ℕ → ℕ → ℕ → List ℕ
written_at base window a v = cond (inside base (length window) a) (set window ((aligned a - base) / 4) v) window

-- The number of the word at an address, as one formula. Where the base is a multiple of 4 and base + 4 × words is at most 2 ^ 32, an address
-- outside comes out past the window's end, and a read or write of the list at this number is `read_at` or `written_at`: the laws
-- `read_inside` and `write_inside` of proofs/Inside.antt.
unfoldable pub word_at : ℕ → ℕ → ℕ
word_at base a = (a + (2 ^ 32 - base)) % 2 ^ 32 / 4
