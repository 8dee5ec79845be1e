-- The value that a word asks for beside the flags and FPEXC: a load or store its base register, any other FPSCR.
use Rattle.std.specs.Prelude.{ℕ, cond, List, eqb, get_or}
use Rattle.bits.specs.Field.{field}
use Rattle.machine.specs.Place.{State}

-- of core registers and FPSCR
abbrev pub value_in : List ℕ → ℕ → ℕ → ℕ
value_in r fpscr op = cond (eqb (field op 25 27) 0b110) (get_or r (field op 16 19) 0) fpscr

abbrev pub value_of : ℕ → State → ℕ
value_of op st = value_in st.machine.r st.machine.fpscr op
