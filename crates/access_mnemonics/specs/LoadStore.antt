-- Loads, stores and pairs.
use Rattle.std.specs.Prelude.{ℕ, ◌+◌, ◌-◌, ◌%◌, cond, List, ◌++◌, eqb}
use Rattle.std.specs.Float.{Format, binary32, binary64}
use Rattle.bits.specs.Field.{field, bit_of}
use Rattle.numerals.specs.Number.{decimal_text}
use Rattle.register_fields.specs.Fields.{reg_d, reg_m}
use Rattle.addresses.specs.Address.{offset, one_only, count_of}
use Rattle.mnemonics.specs.Ascii.{ascii}
use Rattle.mnemonics.specs.Parts.{named_text, precise_text, reg_text, core_text, comma}

-- ---- pairs: two core registers and a double, or two singles, s0 after s31

unfoldable pub cores_text : ℕ → List ℕ
cores_text w = core_text (field w 12 15) ++ (comma ++ core_text (field w 16 19))

unfoldable pub pair_of : Format → ℕ → List ℕ
pair_of binary32 w =
    ascii "{" ++ (reg_text binary32 (reg_m binary32 w) ++ (comma ++ (reg_text binary32 ((reg_m binary32 w + 1) % 32) ++ ascii "}")))
pair_of binary64 w = reg_text binary64 (reg_m binary64 w)

-- to the core registers (bit 20) or from them
abbrev pub to_cores : Format → List ℕ
to_cores binary32 = ascii "FMRRS"
to_cores binary64 = ascii "FMRRD"

abbrev pub from_cores : Format → List ℕ
from_cores binary32 = ascii "FMSRR"
from_cores binary64 = ascii "FMDRR"

unfoldable pub pair_text : Format → ℕ → List ℕ
pair_text f w =
    cond (bit_of w 20)
    (named_text w (to_cores f) ++ (cores_text w ++ (comma ++ pair_of f w)))
    (named_text w (from_cores f) ++ (pair_of f w ++ (comma ++ cores_text w)))

-- ---- one register at base ± offset

unfoldable pub one_register_text : Format → ℕ → List ℕ
one_register_text f w =
    precise_text f w (cond (bit_of w 20) (ascii "FLD") (ascii "FST"))
    ++ (reg_text f (reg_d f w)
    ++ (ascii ", [" ++ (core_text (field w 16 19) ++ (cond (bit_of w 23) (ascii ", #") (ascii ", #-") ++ (decimal_text (offset w) ++ ascii "]")))))

-- ---- several: upwards from the base (U) or from below it; X is the form of an odd number of words in double precision

abbrev pub several_name : ℕ → List ℕ
several_name w = cond (bit_of w 20) (ascii "FLDM") (ascii "FSTM") ++ cond (bit_of w 23) (ascii "IA") (ascii "DB")

unfoldable pub several_named : Format → ℕ → List ℕ
several_named binary32 w = precise_text binary32 w (several_name w)
several_named binary64 w = cond (bit_of w 0) (named_text w (several_name w ++ ascii "X")) (precise_text binary64 w (several_name w))

-- the first register and the last; from 32 on they are those from 0 on
unfoldable pub registers_text : Format → ℕ → List ℕ
registers_text f w =
    cond (eqb (count_of f w) 1) (reg_text f (reg_d f w))
    (reg_text f (reg_d f w) ++ (ascii "-" ++ reg_text f (reg_d f w + (count_of f w - 1))))

unfoldable pub several_text : Format → ℕ → List ℕ
several_text f w =
    several_named f w
    ++ (core_text (field w 16 19) ++ (cond (bit_of w 21) (ascii "!, {") (ascii ", {") ++ (registers_text f w ++ ascii "}")))

unfoldable pub load_store_text : Format → ℕ → List ℕ
load_store_text f w =
    cond (eqb (field w 21 27) 0b110_0010) (pair_text f w) (cond (one_only w) (one_register_text f w) (several_text f w))
