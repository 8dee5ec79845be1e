use Prim.Native.Nat.{◌-◌}
use Rattle.arithmetic_steps.specs.Arithmetic.{arithmetic_step}
use Rattle.machine.specs.Place.{control_of}
use Rattle.short_vectors.proofs.Loop.{Reaching, both, on_both}
use mathlib.Core.Path.{◌≡◌}
use Rattle.arithmetic_steps.proofs.arithmetic.arithmetic_vector.Given as goal

abbrev pub invariant-loop-far : goal.invariant-loop-far
invariant-loop-far g l =
    (control_of l.after ≡ control_of l.fn.fpscr)
    × Reaching on_both g.R.Word.Precision.format (control_of l.fn.fpscr) (arithmetic_step g.R.Word.Precision.format (control_of l.fn.fpscr) l.fn.kind)
    (g.R.Register.number l.fn.d) (g.R.Register.number l.fn.n) (g.R.Register.number l.fn.m) l.vector (both l.fn.fpscr l.fn.s) (both l.after l.s) l.dn l.nn l.mn l.far

abbrev pub decreases-loop-far : goal.decreases-loop-far
decreases-loop-far g l = l.end - l.far
