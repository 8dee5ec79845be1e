use Rattle.std.proofs.Common.{◌-◌}
use Rattle.fpurun.proofs.outcome.changed.Given as goal

-- how many places are left
abbrev pub decreases-loop-p : goal.decreases-loop-p
decreases-loop-p g l = l.end - l.p
