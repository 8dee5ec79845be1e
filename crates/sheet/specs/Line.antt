-- A line of the register sheet (2026-02), in bytes of ASCII.
use Rattle.std.specs.Prelude.{ℕ, Bool, cond, List, [], ◌∷◌, ◌++◌, replicate}
use Prim.Native.Char.{code}
use Rattle.numerals.specs.Number.{digits_text, hex_text}

-- what a line tells of a double: its number, its high and its low word, and whether each of them is known
pub record Line : Type 0 where
  pub number : ℕ
  pub high : ℕ
  pub low : ℕ
  pub high_known : Bool
  pub low_known : Bool

abbrev pub line : ℕ → ℕ → ℕ → Bool → Bool → Line
line n high low h l = record { number = n; high = high; low = low; high_known = h; low_known = l }

-- so many spaces
abbrev pub spaces : ℕ → List ℕ
spaces n = replicate n (code " ")

-- K for known, U for unknown
unfoldable pub letter_of : Bool → ℕ
letter_of known = cond known (code "K") (code "U")

-- 'NN HHHHHHHH LLLLLLLL KU' and spaces to 40
unfoldable pub characters : Line → List ℕ
characters x =
    digits_text 10 2 x.number
    ++ (spaces 1 ++ (hex_text x.high ++ (spaces 1 ++ (hex_text x.low ++ (spaces 1 ++ (letter_of x.high_known ∷ letter_of x.low_known ∷ spaces 17))))))

-- with its line feed
unfoldable pub line_text : Line → List ℕ
unfolding characters
line_text x = characters x ++ (code "\n" ∷ [])
