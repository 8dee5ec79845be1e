use Prim.Native.Nat.{◌-◌}
use Rattle.short_vectors.proofs.Loop.{Iterating}
use Rattle.processing_marks.proofs.Steps.{on_copies}
use Rattle.processing_marks.proofs.vector.copy_vector.Given as goal

abbrev pub invariant-loop-i : goal.invariant-loop-i
invariant-loop-i g l =
    Iterating (on_copies g.R.Word.Precision.format) g.R.Word.Precision.format l.fn.control (λ d n m one. one d m) (g.R.Register.number l.fn.d) (g.R.Register.number l.fn.d) (g.R.Register.number l.fn.m)
    l.vector l.fn.marks l.done l.dn l.dn l.mn l.i

abbrev pub decreases-loop-i : goal.decreases-loop-i
decreases-loop-i g l = l.count - l.i
