use mathlib.Core.Bool.{false}
use lib.ListN.{length}
use lib.Ieee.{binary32}
use Prim.Native.Nat.{◌≤◌, ◌-◌}
use mathlib.Core.Path.{◌≡◌}
use Rattle.memory.specs.LoadStore.{access_at}
use Rattle.meaning.specs.Step.{after}
use Rattle.machine.specs.Place.{state}
use Rattle.machine.specs.Machine.{with_s}
use Rattle.machine.specs.declared.Machine.{Machine}
use Rattle.memory.proofs.words.store_block.Given as goal

abbrev pub invariant-loop-i : goal.invariant-loop-i
invariant-loop-i l = (l.i ≤ l.count) × (length l.window ≡ length l.initial.window) × ((q : Machine) → state (with_s q l.s) l.window ≡ after l.i (access_at binary32 false l.base l.first.0 l.start) (state (with_s q l.s) l.initial.window))

abbrev pub decreases-loop-i : goal.decreases-loop-i
decreases-loop-i l = l.count - l.i
