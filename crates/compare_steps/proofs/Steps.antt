-- What a compare's step does to FPSCR, over the precision.
use Prim.Native.Nat.{ℕ, ◌+◌, ◌*◌, ◌/◌, ◌%◌, ◌^◌}
use mathlib.Core.Path.{◌≡◌, ap}
use mathlib.Core.Bool.{Bool}
use mathlib.Core.List.{List}
use lib.Bits.{bit_or}
use lib.Ieee.{Format, binary32, binary64}
use Rattle.machine.specs.declared.Machine.{Machine}
use Rattle.machine.specs.Machine.{with_s, with_fpscr}
use Rattle.machine.specs.Place.{state, exceptions_of}
use Rattle.registers.specs.Registers.{value_in}
use Rattle.comparisons.specs.Compare.{compare_flags, compare_exceptions}
use Rattle.short_vectors.specs.Register.{raised_in, SteppedWith}
use Rattle.compare_steps.specs.Compare.{compare_step, compare_zero_step}
use Rattle.compare_steps.proofs.Flags.{same_exceptions}

-- FPSCR with other flags, and what a compare raised
abbrev pub flagged : ℕ → ℕ → ℕ → ℕ
flagged fpscr flags raised = raised_in (flags * 2 ^ 28 + fpscr % 2 ^ 28) raised

same : (flags fpscr raised : ℕ) (s v : List ℕ) (q : Machine)
    → state (with_s (with_fpscr q (flagged fpscr flags raised)) s) v
    ≡ state (with_s (with_fpscr q ((flags * 2 ^ 28 + fpscr % 2 ^ 28) / 2 ^ 5 * 2 ^ 5 + exceptions_of (bit_or (exceptions_of fpscr) raised))) s) v
same flags fpscr raised s v q =
    ap (λ (x : ℕ). state (with_s (with_fpscr q ((flags * 2 ^ 28 + fpscr % 2 ^ 28) / 2 ^ 5 * 2 ^ 5 + exceptions_of (bit_or x raised))) s) v) (same_exceptions flags fpscr)

pub compared : (f : Format) (any : Bool) (d m fpscr : ℕ) (s : List ℕ)
    → SteppedWith (compare_step f any d m) fpscr s (flagged fpscr (compare_flags f (value_in f s d) (value_in f s m)) (compare_exceptions f any (value_in f s d) (value_in f s m))) s
compared binary32 any d m fpscr s q v = same _ fpscr _ s v q
compared binary64 any d m fpscr s q v = same _ fpscr _ s v q

pub compared_zero : (f : Format) (any : Bool) (d fpscr : ℕ) (s : List ℕ)
    → SteppedWith (compare_zero_step f any d) fpscr s (flagged fpscr (compare_flags f (value_in f s d) 0) (compare_exceptions f any (value_in f s d) 0)) s
compared_zero binary32 any d fpscr s q v = same _ fpscr _ s v q
compared_zero binary64 any d fpscr s q v = same _ fpscr _ s v q
