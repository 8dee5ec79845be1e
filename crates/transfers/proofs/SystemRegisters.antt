-- The system registers: what a read gives, and what a write leaves.
use mathlib.Core.Path.{◌≡◌, ap}
use mathlib.Core.List.{[], ◌∷◌}
use Prim.Native.Nat.{ℕ, ◌+◌, ◌*◌, ◌/◌, ◌%◌, ◌^◌}
use native.Mathlib.Omega.{arith}
use native.Mathlib.Decide.{ℕ_discrete}
use lib.ListN.{get_or}
use borrow.Author.Tests.{ne_eqb}
use Rattle.machine.specs.Machine.{with_fpscr}
use Rattle.machine.specs.Place.{core, nzcv, control_of, exceptions_of, State, state, put}
use Rattle.meaning.specs.Step.{step}
use Rattle.transfers.specs.Transfer.{read_system, read_flags, write_system}
use Rattle.transfers.specs.Value.{system_value}

-- a word is its three parts
parts : (w : ℕ) → w / 2 ^ 28 * 2 ^ 28 + control_of w + exceptions_of w ≡ w
parts w = omega arith

-- a core register takes the value
pub read_core : (reg t : ℕ) (st : State) → put st (core t) (system_value reg st.machine.fpscr st.machine.fpexc) ≡ step (read_system reg (core t) ∷ []) st
read_core reg t st = by (ℕ_discrete reg 0) (ℕ_discrete reg 1) (ℕ_discrete reg 8)
  where
    by : Dec (reg ≡ 0) → Dec (reg ≡ 1) → Dec (reg ≡ 8)
        → put st (core t) (system_value reg st.machine.fpscr st.machine.fpexc) ≡ step (read_system reg (core t) ∷ []) st
    by (yes a) b c = rw a
    by (no a) (yes b) c = rw (b, parts st.machine.fpscr)
    by (no a) (no b) (yes c) = rw c
    by (no a) (no b) (no c) = simp (ne_eqb _ _ a, ne_eqb _ _ b, ne_eqb _ _ c)

-- the flags take its bits 31:28
pub read_flags_lem : (reg : ℕ) (st : State) → put st nzcv (system_value reg st.machine.fpscr st.machine.fpexc / 2 ^ 28) ≡ step (read_flags reg ∷ []) st
read_flags_lem reg st = by (ℕ_discrete reg 0) (ℕ_discrete reg 1) (ℕ_discrete reg 8)
  where
    by : Dec (reg ≡ 0) → Dec (reg ≡ 1) → Dec (reg ≡ 8)
        → put st nzcv (system_value reg st.machine.fpscr st.machine.fpexc / 2 ^ 28) ≡ step (read_flags reg ∷ []) st
    by (yes a) b c = rw a
    by (no a) (yes b) c = rw b
    by (no a) (no b) (yes c) = rw c
    by (no a) (no b) (no c) = simp (ne_eqb _ _ a, ne_eqb _ _ b, ne_eqb _ _ c)

-- FPSCR after its flags are written from v, and after its control bits are too
abbrev flagged : ℕ → ℕ → ℕ
flagged v w = v / 2 ^ 28 * 2 ^ 28 + w % 2 ^ 28

abbrev controlled : ℕ → ℕ → ℕ
controlled v x = x / 2 ^ 28 * 2 ^ 28 + control_of (control_of v) + x % 2 ^ 5

high : (v w : ℕ) → controlled v (flagged v w) / 2 ^ 5 ≡ v / 2 ^ 5
high v w = omega arith

-- written in its three parts it is the word
pub write_fpscr : (t : ℕ) (st : State) → state (with_fpscr st.machine (get_or st.machine.r t 0)) st.window ≡ step (write_system 1 (core t)) st
write_fpscr t st = ap (λ (z : ℕ). state (with_fpscr st.machine z) st.window) (all (get_or st.machine.r t 0) st.machine.fpscr)
  where
    all : (v w : ℕ) → v ≡ controlled v (flagged v w) / 2 ^ 5 * 2 ^ 5 + exceptions_of (exceptions_of v)
    all v w = rw (high v w) (omega arith)
