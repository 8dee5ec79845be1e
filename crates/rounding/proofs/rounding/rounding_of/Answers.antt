use Rattle.rounding.proofs.Cutting.{mode_nearest, mode_up, mode_down, mode-zero}
use Rattle.rounding.proofs.rounding.rounding_of.Goals as goal

pub returns-then-mode-eq0 : goal.returns-then-mode-eq0
returns-then-mode-eq0 c = mode_nearest c.args.control c.if-mode-eq0.true

pub returns-then-mode-eq1 : goal.returns-then-mode-eq1
returns-then-mode-eq1 c = mode_up c.args.control c.if-mode-eq0.false c.if-mode-eq1.true

pub returns-then-mode-eq2 : goal.returns-then-mode-eq2
returns-then-mode-eq2 c = mode_down c.args.control c.if-mode-eq0.false c.if-mode-eq1.false c.if-mode-eq2.true

pub returns : goal.returns
returns c = mode-zero c.args.control c.if-mode-eq0.false c.if-mode-eq1.false c.if-mode-eq2.false
