use Prim.Native.Nat.{◌≤◌, ◌-◌}
use Rattle.test_grants.proofs.small.differing.Given as goal

abbrev pub invariant-loop-number : goal.invariant-loop-number
invariant-loop-number l = (l.number ≤ l.numbers) × (l.differ ≤ l.number)

abbrev pub decreases-loop-number : goal.decreases-loop-number
decreases-loop-number l = l.numbers - l.number
