use Rattle.walk_back.proofs.Walking.{Walking}
use Rattle.run_log.specs.Log.{Logged}
use Rattle.word_class.specs.Word.{meaning}
use Rattle.meaning.specs.Run.{watch}
use Rattle.meaning.specs.Map.{Map, known}
use Rattle.machine.specs.Place.{State, place}
use lib.ListN.{length}
use mathlib.Core.Bool.{false}
use mathlib.Core.Path.{◌≡◌}
use Prim.Native.Nat.{◌+◌, ◌*◌, ◌≤◌}
use Rattle.walk_back.proofs.walk.Given as goal

abbrev pub invariant-loop-j : goal.invariant-loop-j
invariant-loop-j l =
    (l.j ≤ l.count) × (length l.pairs ≡ length l.initial.pairs) × (l.k + 8 * l.j ≤ 8 * l.count)
    × ((st : State) (μ : Map) → Logged l.base l.list st μ l.count l.log_marks l.log_values l.log_skips → length l.list ≤ length l.log_marks → known (watch (meaning l.base) l.list 0 st μ).map (place l.q) ≡ false
    → Walking l.base l.list st μ l.q l.initial.pairs l.j l.at l.k l.pairs)

abbrev pub decreases-loop-j : goal.decreases-loop-j
decreases-loop-j l = l.j
