-- What a load or store goes by: its precision, how many registers move, the first address and the write-back.
use Rattle.std.specs.Prelude.{ℕ, ◌+◌, ◌-◌, ◌*◌, ◌/◌, ◌%◌, ◌^◌, max, Bool, true, false, cond, not, ◌&&◌, [], ◌∷◌}
use Rattle.std.specs.Float.{Format, binary32, binary64}
use Rattle.bits.specs.Field.{field, bit_of}
use Rattle.registers.specs.Registers.{low_index}
use Rattle.machine.specs.Place.{core}
use Rattle.meaning.specs.Step.{Step, grow}

-- the precision of coprocessor 11, and of 10
abbrev pub format_of : Bool → Format
format_of true = binary64
format_of false = binary32

abbrev pub offset : ℕ → ℕ
offset w = w % 256 * 4

-- P set and W clear: one register at base ± offset
abbrev pub one_only : ℕ → Bool
one_only w = bit_of w 24 && not (bit_of w 21)

-- else imm8 words, halved down for doubles, and at least one register
abbrev pub several : Format → ℕ → ℕ
several binary32 w = w % 256
several binary64 w = w % 256 / 2

abbrev pub count_of : Format → ℕ → ℕ
count_of f w = cond (one_only w) 1 (max (several f w) 1)

-- a register's words: how many, and the first, as a single
abbrev pub words_in : Format → ℕ
words_in binary32 = 1
words_in binary64 = 2

abbrev pub first_word : Format → ℕ → ℕ
first_word binary32 n = n
first_word binary64 n = low_index n

-- base - offset, or with U set the base itself, or base + offset where one register moves
abbrev pub start_of : ℕ → ℕ → ℕ
start_of w a = cond (bit_of w 23) (cond (one_only w) ((a + offset w) % 2 ^ 32) a) ((a + (2 ^ 32 - offset w)) % 2 ^ 32)

-- W: the base register becomes base ± offset
abbrev pub write_back : ℕ → Step
write_back w = cond (bit_of w 21) (grow (core (field w 16 19)) (cond (bit_of w 23) (offset w) (2 ^ 32 - offset w)) ∷ []) []
