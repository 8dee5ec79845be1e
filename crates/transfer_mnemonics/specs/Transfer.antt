-- Register transfers.
use Rattle.std.specs.Prelude.{ℕ, cond, List, ◌++◌, eqb}
use Rattle.std.specs.Float.{Format, binary32, binary64}
use Rattle.bits.specs.Field.{field, bit_of}
use Rattle.numerals.specs.Number.{decimal_text}
use Rattle.register_fields.specs.Fields.{reg_n}
use Rattle.transfers.specs.declared.Transfer.{Transfer}
use Rattle.transfers.specs.declared.Transfer.TheVariants.{System, Single, Nothing}
use Rattle.transfers.specs.Transfer.{high_half, transfer_of}
use Rattle.mnemonics.specs.Ascii.{ascii}
use Rattle.mnemonics.specs.Parts.{condition_text, named_text, reg_text, core_text, comma}

-- a system register; those without a name by their number
unfoldable pub system_name : ℕ → List ℕ
system_name n =
    cond (eqb n 0) (ascii "FPSID")
    (cond (eqb n 1) (ascii "FPSCR")
    (cond (eqb n 8) (ascii "FPEXC") (ascii "cr" ++ decimal_text n)))

-- read (bit 20) or written; FMSTAT is FMRX r15, FPSCR
unfoldable pub system_text : ℕ → List ℕ
system_text w =
    let t = field w 12 15 in
    let n = field w 16 19 in
    cond (bit_of w 20)
    (cond (eqb t 15)
    (cond (eqb n 1) (ascii "FMSTAT" ++ condition_text w) (named_text w (ascii "FMRX") ++ (core_text t ++ (comma ++ system_name n))))
    (named_text w (ascii "FMRX") ++ (core_text t ++ (comma ++ system_name n))))
    (named_text w (ascii "FMXR") ++ (system_name n ++ (comma ++ core_text t)))

-- register n of the unit, read to a core register (bit 20) or written from it, by the name of either
unfoldable pub moved_text : List ℕ → List ℕ → Format → ℕ → ℕ → List ℕ
moved_text read written f n w =
    let t = field w 12 15 in
    cond (bit_of w 20)
    (named_text w read ++ (core_text t ++ (comma ++ reg_text f n)))
    (named_text w written ++ (reg_text f n ++ (comma ++ core_text t)))

-- the high half of a double, which bit 7 has no part in, or a single
unfoldable pub single_text : ℕ → List ℕ
single_text w =
    cond (high_half w)
    (moved_text (ascii "FMRDH") (ascii "FMDHR") binary64 (field w 16 19) w)
    (moved_text (ascii "FMRS") (ascii "FMSR") binary32 (reg_n binary32 w) w)

unfoldable pub transfer_text_by : Transfer → ℕ → List ℕ
transfer_text_by System w = system_text w
transfer_text_by (Single n) w = single_text w
transfer_text_by Nothing w = ascii "nothing"

unfoldable pub transfer_text : ℕ → List ℕ
transfer_text w = transfer_text_by (transfer_of w) w
