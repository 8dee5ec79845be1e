use Rattle.std.proofs.Common.{length, ◌-◌, ◌≤◌}
use Rattle.fpurun.proofs.words.lines.Given as goal

abbrev pub invariant-loop-i : goal.invariant-loop-i
invariant-loop-i g l = l.i ≤ length l.list

-- how many words are left
abbrev pub decreases-loop-i : goal.decreases-loop-i
decreases-loop-i g l = length l.list - l.i
