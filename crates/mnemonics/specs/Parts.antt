-- The parts of an instruction's text.
use Rattle.std.specs.Prelude.{ℕ, ◌*◌, List, ◌++◌, take, drop}
use Rattle.std.specs.Float.{Format, binary32, binary64}
use Rattle.bits.specs.Field.{field}
use Rattle.numerals.specs.Number.{decimal_text}
use Rattle.mnemonics.specs.Ascii.{ascii}

-- the condition, by bits 31:28; 1110 is always and has no text
unfoldable pub condition_text : ℕ → List ℕ
condition_text w = take 2 (drop (2 * field w 28 31) (ascii "EQNECSCCMIPLVSVCHILSGELTGTLE"))

-- a name with the condition
unfoldable pub named_text : ℕ → List ℕ → List ℕ
named_text w name = name ++ (condition_text w ++ ascii " ")

-- the precision's letter stands before the condition
abbrev pub letter_of : Format → List ℕ
letter_of binary32 = ascii "S"
letter_of binary64 = ascii "D"

unfoldable pub precise_text : Format → ℕ → List ℕ → List ℕ
precise_text f w name = name ++ named_text w (letter_of f)

-- registers of the unit, and core registers
abbrev pub prefix_of : Format → List ℕ
prefix_of binary32 = ascii "s"
prefix_of binary64 = ascii "d"

unfoldable pub reg_text : Format → ℕ → List ℕ
reg_text f n = prefix_of f ++ decimal_text n

unfoldable pub core_text : ℕ → List ℕ
core_text n = ascii "r" ++ decimal_text n

-- between two operands
abbrev pub comma : List ℕ
comma = ascii ", "
