use Rattle.std.proofs.Common.{◌-◌, ◌≤◌}
use Rattle.test_disassembly.proofs.high_halves.Given as goal

abbrev pub invariant-loop-n : goal.invariant-loop-n
invariant-loop-n g l = l.n ≤ 16

abbrev pub decreases-loop-n : goal.decreases-loop-n
decreases-loop-n g l = 16 - l.n
