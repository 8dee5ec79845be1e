use mathlib.Core.Path.{refl}
use Rattle.short_vectors.specs.Vector.{precision}
use Rattle.stepping_sources.proofs.Walks.{walk_first, walk_again, walk_done, by_any, iteration_is}
use Rattle.stepping_sources.proofs.vector.moves_back.Goals as goal

pub loop-j-init : goal.loop-j-init
loop-j-init c = let a = c.args in λ n z m _ _. walk_first (precision a.double) a.control n a.d z a.b a.index m a.q a.k a.pairs.now _ c.vector_from-vector.ensures.iterations

pub loop-j-preserved : goal.loop-j-preserved
loop-j-preserved c = let a = c.args in let e = c.vector_from-vector.ensures in λ n z m g l. walk_again (precision a.double) a.control n a.d z a.b a.index m a.q a.k a.pairs.now _ _ _ _ _ c.move_by-s.result c.link-y.result c.loop-j-test.true (c.loop-j.invariant n z m g l) (by_any (precision a.double) a.control n a.d z a.b m _ _ c.move_by-s.result (iteration_is (precision a.double) a.control a.d _ e n z a.b _ _ _ _ c.step.ensures refl c.second.ensures) (λ y. c.move_by-s.ensures a.control n _ y g l)) c.link-y.ensures

pub returns : goal.returns
returns c = let a = c.args in λ n z m g l. walk_done (precision a.double) a.control n a.d z a.b a.index m a.q a.k a.pairs.now _ _ _ _ c.loop-j-test.false (c.loop-j.invariant n z m g l)
