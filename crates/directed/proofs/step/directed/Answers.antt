use Rattle.directed.proofs.Composing.{stored}
use Rattle.directed.proofs.step.directed.Goals as goal

pub returns : goal.returns
returns g c = stored g.W.Precision.format c.args.control c.args.kind _ _ _ _ _ _ _ _ c.compose-x.ensures c.flush.ensures c.flushed_exceptions.ensures
