use Prim.Native.Nat.{◌-◌}
use Rattle.arithmetic_steps.specs.Arithmetic.{arithmetic_step}
use Rattle.processing_marks.proofs.Steps.{on_marks}
use Rattle.short_vectors.proofs.Loop.{Iterating}
use Rattle.arithmetic_marks.proofs.arithmetic.arithmetic_vector.Given as goal

abbrev pub invariant-loop-i : goal.invariant-loop-i
invariant-loop-i g l =
    Iterating on_marks g.R.Word.Precision.format l.fn.control (arithmetic_step g.R.Word.Precision.format l.fn.control l.fn.kind) (g.R.Register.number l.fn.d) (g.R.Register.number l.fn.n) (g.R.Register.number l.fn.m)
    l.vector l.fn.marks l.done l.dn l.nn l.mn l.i

abbrev pub decreases-loop-i : goal.decreases-loop-i
decreases-loop-i g l = l.count - l.i
