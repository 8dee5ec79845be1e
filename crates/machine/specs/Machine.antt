-- A machine, and a new one.
use Rattle.std.specs.Prelude.{ℕ, ◌≡◌, Bool, false, List, length, replicate}
use Rattle.bits.specs.declared.psr.Psr.{Psr}
use Rattle.machine.specs.declared.Machine.{Machine}
use Rattle.machine.specs.declared.Controls.{Controls}

-- all zero but FPEXC, whose bit 30 enables the unit
abbrev pub new_machine : Machine
new_machine =
    record {
      s = replicate 32 0;
      r = replicate 16 0;
      fpscr = 0;
      fpexc = 0x4000_0000;
      cpsr = record { n = false; z = false; c = false; v = false };
      thumb = false;
    }

-- as many registers as the code's machine has
pub record Sized (m : Machine) : Type 0 where
  pub s : length m.s ≡ 32
  pub r : length m.r ≡ 16

-- a machine with one part replaced
abbrev pub with_s : Machine → List ℕ → Machine
with_s m l = record { s = l; r = m.r; fpscr = m.fpscr; fpexc = m.fpexc; cpsr = m.cpsr; thumb = m.thumb }

abbrev pub with_r : Machine → List ℕ → Machine
with_r m l = record { s = m.s; r = l; fpscr = m.fpscr; fpexc = m.fpexc; cpsr = m.cpsr; thumb = m.thumb }

abbrev pub with_fpscr : Machine → ℕ → Machine
with_fpscr m x = record { s = m.s; r = m.r; fpscr = x; fpexc = m.fpexc; cpsr = m.cpsr; thumb = m.thumb }

abbrev pub with_fpexc : Machine → ℕ → Machine
with_fpexc m x = record { s = m.s; r = m.r; fpscr = m.fpscr; fpexc = x; cpsr = m.cpsr; thumb = m.thumb }

abbrev pub with_cpsr : Machine → Psr → Machine
with_cpsr m x = record { s = m.s; r = m.r; fpscr = m.fpscr; fpexc = m.fpexc; cpsr = x; thumb = m.thumb }

-- the machine of its parts, and the parts that are no array
abbrev pub assembled : List ℕ → List ℕ → Controls → Bool → Machine
assembled s r x thumb = record { s = s; r = r; fpscr = x.fpscr; fpexc = x.fpexc; cpsr = x.cpsr; thumb = thumb }

abbrev pub controls_of : Machine → Controls
controls_of m = record { fpscr = m.fpscr; fpexc = m.fpexc; cpsr = m.cpsr }
