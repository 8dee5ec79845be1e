use native.Mathlib.Omega.{arith}
use mathlib.Core.Path.{refl}
use Rattle.short_vectors.specs.Vector.{precision}
use Rattle.stepping_sources.proofs.Walks.{make_first, make_more, iteration_is}
use Rattle.stepping_sources.proofs.vector.marks_before.Goals as goal

pub loop-i-init : goal.loop-i-init
loop-i-init c = let a = c.args in make_first (precision a.double) a.control a.n a.d a.a a.b a.marks _ refl refl

pub loop-i-preserved : goal.loop-i-preserved
loop-i-preserved c = let a = c.args in make_more (precision a.double) a.control a.n a.d a.a a.b a.marks _ _ _ _ c.loop-i.invariant (omega (arith, c.loop-i-test.true, c.vector_from-vector.ensures.iterations, c.loop-i.invariant.some)) (iteration_is (precision a.double) a.control a.d _ c.vector_from-vector.ensures a.n a.a a.b _ _ _ _ c.step.ensures c.step-in-loop-i.ensures c.second.ensures) (c.marks_by.ensures a.control c.requires.3)
