-- The replay of a record (2026-03): the watched run on the state that it holds, or a refusal.
use Rattle.std.specs.Prelude.{ℕ, cond, List, eqb, length}
use Rattle.machine.specs.Machine.{new_machine}
use Rattle.machine.specs.Place.{state}
use Rattle.meaning.specs.Stop.{report, refused}
use Rattle.place_marks.specs.Word.{map_in}
use Rattle.watch.specs.Watch.{Reply, watch_reply}
use Rattle.records.specs.Recorded.{of_bytes}
use Rattle.record_refusal.specs.Refusal.{state_in, map_of, refusal_of}

-- a refusal leaves the lent window and window marks as they came, and hands back a new machine with every mark before the window unknown
abbrev pub refused_reply : ℕ → List ℕ → List ℕ → Reply
refused_reply n window marks = record { report = report (refused n); count = 0; leaves = state new_machine window; map = map_in 0 marks }

-- given the lent window and window marks
unfoldable pub replay_reply : List ℕ → List ℕ → List ℕ → Reply
replay_reply b window marks =
    let x = of_bytes b in
    let n = refusal_of b (length window) (length marks) in
    cond (eqb n 0) (watch_reply x.base x.list (state_in x) (map_of x)) (refused_reply n window marks)
