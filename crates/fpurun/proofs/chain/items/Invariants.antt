use Rattle.std.proofs.Common.{◌-◌, ◌≤◌}
use Rattle.fpurun.proofs.chain.items.Given as goal

abbrev pub invariant-loop-k : goal.invariant-loop-k
invariant-loop-k g l = l.k ≤ l.n

-- how many pairs are left
abbrev pub decreases-loop-k : goal.decreases-loop-k
decreases-loop-k g l = l.n - l.k
