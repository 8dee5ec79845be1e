use Prim.Native.Nat.{◌≤◌}
use native.Mathlib.Omega.{arith}
use Rattle.short_vectors.specs.Vector.{precision}
use Rattle.stepping_sources.proofs.Walks.{walk_first, walk_again, walk_done, walk_index, by_marks, iteration_is}
use Rattle.stepping_sources.proofs.vector.registers_back.Goals as goal
use Rattle.stepping_sources.proofs.vector.registers_back.Goals.{then-n-gt9+else-n-lt13, else-n-gt9}

pub loop-j-init : goal.loop-j-init
loop-j-init c = let a = c.args in walk_first (precision a.double) a.control a.n a.d a.a a.b a.index a.marks a.q a.k a.pairs.now _ c.vector_from-vector.ensures.iterations

pub loop-j-preserved : goal.loop-j-preserved
loop-j-preserved c = let a = c.args in let no_move : 10 ≤ a.n → 13 ≤ a.n = elim c.if-n-gt9.branch [ then-n-gt9+else-n-lt13 w ↦ λ z. w.if-n-lt13.false | else-n-gt9 w ↦ λ z. omega (arith, z, w.if-n-gt9.false) ] in walk_again (precision a.double) a.control a.n a.d a.a a.b a.index a.marks a.q a.k a.pairs.now _ _ _ _ _ c.number_by-s.result c.link-y.result c.loop-j-test.true c.loop-j.invariant (by_marks (precision a.double) a.control a.n a.d a.a a.b a.marks _ _ c.number_by-s.result (iteration_is (precision a.double) a.control a.d _ c.vector_from-vector.ensures a.n a.a a.b _ _ _ _ c.step.ensures c.step-in-loop-j.ensures c.second.ensures) _ (c.marks_before-before.ensures.marks _ (walk_index (precision a.double) a.control a.n a.d a.a a.b a.index a.marks a.q a.k a.pairs.now _ _ _ _ c.loop-j.invariant c.loop-j-test.true)) (c.number_by-s.ensures a.control no_move)) c.link-y.ensures

pub returns : goal.returns
returns c = let a = c.args in walk_done (precision a.double) a.control a.n a.d a.a a.b a.index a.marks a.q a.k a.pairs.now _ _ _ _ c.loop-j-test.false c.loop-j.invariant
