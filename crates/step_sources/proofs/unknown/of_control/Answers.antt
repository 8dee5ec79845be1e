use Rattle.step_sources.proofs.Words.{beside_control, control_itself}
use Rattle.step_sources.proofs.unknown.of_control.Goals as goal

pub returns-then-is_known : goal.returns-then-is_known
returns-then-is_known c = λ ps. beside_control c.args.marks _ c.is_known.ensures ps c.if-is_known.true c.args.other

pub returns : goal.returns
returns c = λ ps h. control_itself c.args.marks _ c.is_known.ensures ps c.if-is_known.false
