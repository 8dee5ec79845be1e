use Prim.Native.Nat.{◌-◌}
use Rattle.short_vectors.specs.Vector.{precision}
use Rattle.stepping_sources.proofs.Walks.{Making}
use Rattle.stepping_sources.proofs.vector.marks_before.Given as goal

abbrev pub invariant-loop-i : goal.invariant-loop-i
invariant-loop-i l = Making (precision l.double) l.control l.n l.d l.a l.b l.marks l.i l.before

abbrev pub decreases-loop-i : goal.decreases-loop-i
decreases-loop-i l = l.count - l.i
