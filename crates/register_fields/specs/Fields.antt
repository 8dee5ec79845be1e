-- The fields of a data-processing word.
use Rattle.std.specs.Prelude.{ℕ, ◌+◌, ◌*◌, ◌%◌}
use Rattle.std.specs.Float.{Format}
use Rattle.bits.specs.Field.{field}
use Rattle.registers.specs.Registers.{reg_of}

-- the registers that a word names in a precision, and as a single whatever the precision
abbrev pub reg_d : Format → ℕ → ℕ
reg_d f w = reg_of f (field w 12 15) (field w 22 22)

abbrev pub reg_n : Format → ℕ → ℕ
reg_n f w = reg_of f (field w 16 19) (field w 7 7)

abbrev pub reg_m : Format → ℕ → ℕ
reg_m f w = reg_of f (w % 16) (field w 5 5)

-- bits 23, 21, 20 and 6
abbrev pub kind_of : ℕ → ℕ
kind_of w = field w 23 23 * 8 + field w 20 21 * 2 + field w 6 6
