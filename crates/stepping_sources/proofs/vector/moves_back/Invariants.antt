use Prim.Native.Nat.{ℕ, ◌<◌, ◌≤◌}
use Rattle.short_vectors.specs.Vector.{precision}
use Rattle.stepping_sources.specs.Stepping.{stepping_act}
use Rattle.stepping_sources.proofs.Walks.{Walking}
use Rattle.stepping_sources.proofs.vector.moves_back.Given as goal

abbrev pub invariant-loop-j : goal.invariant-loop-j
invariant-loop-j l = (n a m : ℕ) → 10 ≤ n → n < 13 → Walking (stepping_act (precision l.double) l.control n l.d a l.b) l.index m l.q l.k l.initial.pairs l.pairs l.j l.place l.count

abbrev pub decreases-loop-j : goal.decreases-loop-j
decreases-loop-j l = l.j
