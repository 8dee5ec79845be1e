-- The word that a read of a system register gives, of FPSCR and FPEXC: the laws `read_core` and `read_flags` of proofs/SystemRegisters.antt say that the
-- tree's writes store it, or its bits 31:28.
use Rattle.std.specs.Prelude.{ℕ, cond, eqb}
use Rattle.transfers.specs.Transfer.{fpsid}

abbrev pub system_value : ℕ → ℕ → ℕ → ℕ
system_value reg fpscr fpexc = cond (eqb reg 0) fpsid (cond (eqb reg 1) fpscr (cond (eqb reg 8) fpexc 0))
