use Prim.Native.Nat.{◌≤◌, ◌<◌, ◌-◌}
use Rattle.test_grants.proofs.small.one_by_one.Given as goal

abbrev pub invariant-loop-turns : goal.invariant-loop-turns
invariant-loop-turns l = (l.i < 3) × (l.turns ≤ 32)

abbrev pub decreases-loop-turns : goal.decreases-loop-turns
decreases-loop-turns l = 32 - l.turns
