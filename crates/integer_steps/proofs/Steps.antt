-- What a conversion's step does to lent singles and to FPSCR, over the precision.
use Prim.Native.Nat.{ℕ, ◌^◌, ◌<◌}
use mathlib.Core.Path.{refl, sym, ap}
use mathlib.Core.Bool.{Bool}
use mathlib.Core.List.{List}
use lib.ListN.{get_or, set}
use lib.Ieee.{Format, binary32, binary64}
use Rattle.machine.specs.Machine.{with_s, with_fpscr}
use Rattle.machine.specs.Place.{state, control_of}
use Rattle.registers.specs.Registers.{single_index, value_in, stored_in}
use Rattle.rounding.specs.Rounding.{rounding_of}
use Rattle.rounding.specs.declared.rounding.Rounding.TheVariants.{Zero}
use Rattle.integers.specs.Integer.{from_integer, to_integer, from_integer_exceptions, to_integer_exceptions}
use Rattle.integers.proofs.Laws.{from_integer_exact}
use Rattle.short_vectors.specs.Register.{raised_in, SteppedWith}
use Rattle.integer_steps.specs.Integer.{from_step, truncate_step, round_step}

-- as a double every integer is exact, so that any mode's result is that of the one which the step names
pub from_integer_lem : (f : Format) (signed : Bool) (d m fpscr : ℕ) (s : List ℕ) → get_or s (single_index m) 0 < 2 ^ 32
    → SteppedWith (from_step f signed d m) fpscr s (raised_in fpscr (from_integer_exceptions f signed (get_or s (single_index m) 0)))
    (stored_in f s d (from_integer f (rounding_of (control_of fpscr)) signed (get_or s (single_index m) 0)))
from_integer_lem binary32 signed d m fpscr s h q v = refl
from_integer_lem binary64 signed d m fpscr s h q v =
    ap (λ (x : ℕ). state (with_s (with_fpscr q (raised_in fpscr (from_integer_exceptions binary64 signed (get_or s (single_index m) 0)))) (stored_in binary64 s d x)) v)
    (sym (from_integer_exact (rounding_of (control_of fpscr)) signed (get_or s (single_index m) 0) h))

pub truncate_lem : (f : Format) (signed : Bool) (d m fpscr : ℕ) (s : List ℕ)
    → SteppedWith (truncate_step f signed d m) fpscr s (raised_in fpscr (to_integer_exceptions f Zero signed (value_in f s m))) (set s (single_index d) (to_integer f Zero signed (value_in f s m)))
truncate_lem binary32 signed d m fpscr s q v = refl
truncate_lem binary64 signed d m fpscr s q v = refl

pub round_lem : (f : Format) (signed : Bool) (d m fpscr : ℕ) (s : List ℕ)
    → SteppedWith (round_step f signed d m) fpscr s (raised_in fpscr (to_integer_exceptions f (rounding_of (control_of fpscr)) signed (value_in f s m)))
    (set s (single_index d) (to_integer f (rounding_of (control_of fpscr)) signed (value_in f s m)))
round_lem binary32 signed d m fpscr s q v = refl
round_lem binary64 signed d m fpscr s q v = refl
