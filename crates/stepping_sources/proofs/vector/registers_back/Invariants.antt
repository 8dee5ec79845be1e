use Rattle.short_vectors.specs.Vector.{precision}
use Rattle.stepping_sources.specs.Stepping.{stepping_act}
use Rattle.stepping_sources.proofs.Walks.{Walking}
use Rattle.stepping_sources.proofs.vector.registers_back.Given as goal

abbrev pub invariant-loop-j : goal.invariant-loop-j
invariant-loop-j l = Walking (stepping_act (precision l.double) l.control l.n l.d l.a l.b) l.index l.marks l.q l.k l.initial.pairs l.pairs l.j l.place l.count

abbrev pub decreases-loop-j : goal.decreases-loop-j
decreases-loop-j l = l.j
