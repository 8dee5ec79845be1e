-- The places (document 01's term) of a machine with its window, their numbers, and what they hold.
use Rattle.std.specs.Prelude.{ℕ, ◌+◌, ◌-◌, ◌*◌, ◌/◌, ◌%◌, ◌^◌, cond, List, ltb, get_or, set}
use Rattle.bits.specs.Psr.{nzcv_of, psr_of}
use Rattle.machine.specs.declared.Machine.{Machine}
use Rattle.registers.specs.Registers.{single_index, low_index, high_index}
use Rattle.machine.specs.Machine.{with_s, with_r, with_fpscr, with_fpexc, with_cpsr}

-- s0.., r0.., the window's words; FPSCR 31:28 and 27:5, FPEXC, NZCV, and the cumulative exception bits, FPSCR 4:0
pub data Place : Type 0 where
  single core word : ℕ → Place
  flags control exc nzcv exceptions : Place

-- the places of a single, and of the low and the high word of a double
abbrev pub s_word : ℕ → Place
s_word n = single (single_index n)

abbrev pub low_word : ℕ → Place
low_word n = single (low_index n)

abbrev pub high_word : ℕ → Place
high_word n = single (high_index n)

-- how many places stand before the window's words
abbrev pub before : ℕ
before = 53

abbrev pub number : Place → ℕ
number (single n) = n
number (core n) = 32 + n
number (word n) = before + n
number flags = 48
number control = 49
number exc = 50
number nzcv = 51
number exceptions = 52

-- the place of a number
unfoldable pub place : ℕ → Place
place n =
    cond (ltb n 32) (single n)
    (cond (ltb n 48) (core (n - 32))
    (cond (ltb n 49) flags
    (cond (ltb n 50) control
    (cond (ltb n 51) exc
    (cond (ltb n 52) nzcv
    (cond (ltb n before) exceptions (word (n - before))))))))

-- a machine with its window
pub record State : Type 0 where
  pub machine : Machine
  pub window : List ℕ

abbrev pub state : Machine → List ℕ → State
state m w = record { machine = m; window = w }

-- of FPSCR the control bits, 27:5, in position, and the cumulative exception bits, 4:0
abbrev pub control_of : ℕ → ℕ
control_of fpscr = fpscr % 2 ^ 28 / 2 ^ 5 * 2 ^ 5

abbrev pub exceptions_of : ℕ → ℕ
exceptions_of fpscr = fpscr % 2 ^ 5

-- the bits that a place holds: past the window's end 0
abbrev pub get : State → Place → ℕ
get st (single n) = get_or st.machine.s n 0
get st (core n) = get_or st.machine.r n 0
get st (word n) = get_or st.window n 0
get st flags = st.machine.fpscr / 2 ^ 28
get st control = control_of st.machine.fpscr
get st exc = st.machine.fpexc
get st nzcv = nzcv_of st.machine.cpsr
get st exceptions = exceptions_of st.machine.fpscr

-- a state with other bits in a place: past the window's end it stays as it is
abbrev pub put : State → Place → ℕ → State
put st (single n) v = state (with_s st.machine (set st.machine.s n v)) st.window
put st (core n) v = state (with_r st.machine (set st.machine.r n v)) st.window
put st (word n) v = state st.machine (set st.window n v)
put st flags v = state (with_fpscr st.machine (v * 2 ^ 28 + st.machine.fpscr % 2 ^ 28)) st.window
put st control v = state (with_fpscr st.machine (st.machine.fpscr / 2 ^ 28 * 2 ^ 28 + control_of v + st.machine.fpscr % 2 ^ 5)) st.window
put st exc v = state (with_fpexc st.machine v) st.window
put st nzcv v = state (with_cpsr st.machine (psr_of v)) st.window
put st exceptions v = state (with_fpscr st.machine (st.machine.fpscr / 2 ^ 5 * 2 ^ 5 + exceptions_of v)) st.window
