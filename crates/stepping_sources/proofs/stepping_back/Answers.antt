use Rattle.short_vectors.specs.Vector.{precision}
use Rattle.stepping_sources.proofs.Walks.{walk_only, one_only}
use Rattle.stepping_sources.proofs.stepping_back.Goals as goal

pub returns : goal.returns
returns c = let a = c.args in walk_only (precision a.double) a.control a.n _ _ _ a.index a.marks a.q a.k _ _ c.named_source-s.result c.link.result (one_only (precision a.double) a.control _ c.iterations_of.ensures c.if-iterations_of-gt1.false) (c.named_source-s.ensures a.control) c.link.ensures
