-- Document 01's 'Values to hold it against', those to be proved: what the calls of crate `vfp` should answer, by the definitions in their contracts.
use Rattle.std.specs.Prelude.{◌≡◌, ℕ, ◌+◌, List, [], ◌∷◌, ◌++◌, replicate, take}
use Rattle.machine.specs.declared.Machine.{Machine}
use Rattle.machine.specs.Machine.{new_machine, with_s, with_r, with_fpscr}
use Rattle.machine.specs.Place.{state}
use Rattle.meaning.specs.Stop.{finished, report}
use Rattle.exceptions.specs.Exceptions.{invalid, underflow, inexact}
use Rattle.processing.specs.Data.{data_tree}
use Rattle.vfp.specs.Call.{Reply, reply, load_store_reply}

-- a new machine with FPSCR, the singles from s0 on, and r0; what is not given is 0
abbrev pub machine_with : ℕ → List ℕ → ℕ → Machine
machine_with c s r0 = with_r (with_fpscr (with_s new_machine (take 32 (s ++ replicate 32 0))) c) (r0 ∷ replicate 15 0)

-- nothing to report, and this machine and window left
abbrev pub leaving : Machine → List ℕ → Reply
leaving m v = record { report = report finished; leaves = state m v }

-- a data-processing word makes these FPSCR, the exceptions that it raises among its bits, and singles of those, and changes nothing else
abbrev pub Makes : ℕ → ℕ → List ℕ → ℕ → List ℕ → Type 0
Makes w c s c' s' = (v : List ℕ) → reply (data_tree (machine_with c s 0).thumb w) (state (machine_with c s 0) v) ≡ leaving (machine_with c' s' 0) v

-- a load with base register r0, over a window of the words 1 to 6 from 0x1000 on, where r0 points, leaves these singles and r0
abbrev pub memory_words : List ℕ
memory_words = 1 ∷ 2 ∷ 3 ∷ 4 ∷ 5 ∷ 6 ∷ []

abbrev pub Loads : ℕ → List ℕ → ℕ → Type 0
Loads w s r0 = load_store_reply 0x1000 w (state (machine_with 0 [] 0x1000) memory_words) ≡ leaving (machine_with 0 s r0) memory_words

-- FPSCR: FZ, mode 10, LEN 3, stride 2 with LEN 1
abbrev pub flushing : ℕ
flushing = 0x100_0000

abbrev pub mode10 : ℕ
mode10 = 0x80_0000

abbrev pub length3 : ℕ
length3 = 0x3_0000

abbrev pub stride2 : ℕ
stride2 = 0x31_0000

-- s0 to s15, and s16 to s23, which hold different numbers
abbrev pub sixteen : List ℕ
sixteen = replicate 16 0

abbrev pub sources : List ℕ
sources = 101 ∷ 102 ∷ 103 ∷ 104 ∷ 105 ∷ 106 ∷ 107 ∷ 108 ∷ []

pub record Values : Type 0 where
  -- FTOSIS s0, s1 and FTOSID s0, d1 in mode 00: 2.5, -0.5, -1.5
  pub two_and_a_half : Makes 0xEEBD_0A60 0 (0 ∷ 0x4020_0000 ∷ []) inexact (2 ∷ 0x4020_0000 ∷ [])
  pub two_and_a_half_double : Makes 0xEEBD_0B41 0 (0 ∷ 0 ∷ 0 ∷ 0x4004_0000 ∷ []) inexact (2 ∷ 0 ∷ 0 ∷ 0x4004_0000 ∷ [])
  pub minus_half : Makes 0xEEBD_0A60 0 (7 ∷ 0xBF00_0000 ∷ []) inexact (0 ∷ 0xBF00_0000 ∷ [])
  pub minus_half_double : Makes 0xEEBD_0B41 0 (7 ∷ 0 ∷ 0 ∷ 0xBFE0_0000 ∷ []) inexact (0 ∷ 0 ∷ 0 ∷ 0xBFE0_0000 ∷ [])
  pub minus_one_and_a_half : Makes 0xEEBD_0A60 0 (0 ∷ 0xBFC0_0000 ∷ []) inexact (0xFFFF_FFFE ∷ 0xBFC0_0000 ∷ [])
  pub minus_one_and_a_half_double : Makes 0xEEBD_0B41 0 (0 ∷ 0 ∷ 0 ∷ 0xBFF8_0000 ∷ []) inexact (0xFFFF_FFFE ∷ 0 ∷ 0 ∷ 0xBFF8_0000 ∷ [])
  -- the same and FTOUIS, FTOUID in mode 10: -0.5, which is outside the unsigned integers
  pub down_signed : Makes 0xEEBD_0A60 mode10 (0 ∷ 0xBF00_0000 ∷ []) (mode10 + inexact) (0xFFFF_FFFF ∷ 0xBF00_0000 ∷ [])
  pub down_signed_double : Makes 0xEEBD_0B41 mode10 (0 ∷ 0 ∷ 0 ∷ 0xBFE0_0000 ∷ []) (mode10 + inexact) (0xFFFF_FFFF ∷ 0 ∷ 0 ∷ 0xBFE0_0000 ∷ [])
  pub down_unsigned : Makes 0xEEBC_0A60 mode10 (7 ∷ 0xBF00_0000 ∷ []) (mode10 + invalid) (0 ∷ 0xBF00_0000 ∷ [])
  pub down_unsigned_double : Makes 0xEEBC_0B41 mode10 (7 ∷ 0 ∷ 0 ∷ 0xBFE0_0000 ∷ []) (mode10 + invalid) (0 ∷ 0 ∷ 0 ∷ 0xBFE0_0000 ∷ [])
  -- FCMPS s0, s1 and FCMPD d0, d1 of +0 and -0: 0110
  pub zeros : Makes 0xEEB4_0A60 0 (0 ∷ 0x8000_0000 ∷ []) 0x6000_0000 (0 ∷ 0x8000_0000 ∷ [])
  pub zeros_double : Makes 0xEEB4_0B41 0 (0 ∷ 0 ∷ 0 ∷ 0x8000_0000 ∷ []) 0x6000_0000 (0 ∷ 0 ∷ 0 ∷ 0x8000_0000 ∷ [])
  -- FCPYS s14, s16 with LEN 3: s14, s15, s8, s9 in this order; FCPYS s7, s16: s7 alone
  pub from_14 : Makes 0xEEB0_7A48 length3 (sixteen ++ sources) length3 (replicate 8 0 ++ (103 ∷ 104 ∷ 0 ∷ 0 ∷ 0 ∷ 0 ∷ 101 ∷ 102 ∷ sources))
  pub just_7 : Makes 0xEEF0_3A48 length3 (sixteen ++ sources) length3 (replicate 7 0 ++ (101 ∷ replicate 8 0 ++ sources))
  -- FCPYD d6, d8 with stride 2 and LEN 1: d6, then d4 from d10
  pub doubles_from_6 : Makes 0xEEB0_6B48 stride2 (sixteen ++ sources) stride2 (replicate 8 0 ++ (105 ∷ 106 ∷ 0 ∷ 0 ∷ 101 ∷ 102 ∷ 0 ∷ 0 ∷ sources))
  -- FLDMIAX r0!, {d0, d1} with imm8 5, and imm8 0: d0 alone
  pub imm8_5 : Loads 0xECB0_0B05 (1 ∷ 2 ∷ 3 ∷ 4 ∷ []) 0x1014
  pub imm8_0 : Loads 0xECB0_0B00 (1 ∷ 2 ∷ []) 0x1000
  -- FCVTSD s0, d1 with FZ 0
  pub narrowed_tie : Makes 0xEEB7_0BC1 0 (0 ∷ 0 ∷ 0x1000_0000 ∷ 0x3FF0_0000 ∷ []) inexact (0x3F80_0000 ∷ 0 ∷ 0x1000_0000 ∷ 0x3FF0_0000 ∷ [])
  pub narrowed_least : Makes 0xEEB7_0BC1 0 (0 ∷ 0 ∷ 1 ∷ 0x3690_0000 ∷ []) (underflow + inexact) (1 ∷ 0 ∷ 1 ∷ 0x3690_0000 ∷ [])
  -- the second with FZ 1: the subnormal is stored as 0
  pub narrowed_flushed : Makes 0xEEB7_0BC1 flushing (7 ∷ 0 ∷ 1 ∷ 0x3690_0000 ∷ []) (flushing + underflow) (0 ∷ 0 ∷ 1 ∷ 0x3690_0000 ∷ [])
