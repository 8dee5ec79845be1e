use Rattle.phases.specs.Round.{sum}
use mathlib.Core.Path.{◌≡◌}
use Prim.Native.Nat.{◌+◌, ◌*◌, ◌^◌, ◌≤◌, ◌-◌}
use lib.ListN.{length, drop}
use Rattle.grants.proofs.refusal.total.Given as goal

abbrev pub invariant-loop-i : goal.invariant-loop-i
invariant-loop-i l = (l.i ≤ length l.numbers) × (l.all + sum (drop l.i l.numbers) ≡ sum l.numbers) × (l.all ≤ l.i * 2 ^ 32)

abbrev pub decreases-loop-i : goal.decreases-loop-i
decreases-loop-i l = length l.numbers - l.i
