-- What the replay of a record promises.
use Rattle.std.specs.Prelude.{ℕ, ◌≡◌, List, false, length, take, drop}
use Rattle.machine.specs.declared.Machine.{Machine}
use Rattle.machine.specs.Place.{state, before}
use Rattle.layout.specs.State.{decode}
use Rattle.place_marks.specs.Word.{map_in, word_of}
use Rattle.watch.specs.Watch.{Reply}
use Rattle.watch.specs.Promise.{Promise, WordPromise}
use Rattle.records.specs.Recorded.{Recorded, of_bytes, word_of_marks}
use Rattle.record_refusal.specs.Refusal.{refusal_of}
use Rattle.replay.specs.Replay.{replay_reply}

-- what the watched run promises from a machine, a window, a word of marks and window marks, of its answer x and the word m that it hands back
abbrev pub Ran : ℕ → List ℕ → Machine → List ℕ → ℕ → List ℕ → Reply → ℕ → Type 0
Ran base list machine window known marks x m =
    Promise base list (state machine window) (map_in known marks) x × WordPromise base list (state machine window) known marks x m

-- from what is recorded
abbrev pub CycleRan : Recorded → Reply → ℕ → Type 0
CycleRan y x m =
    Ran y.base y.list (decode false (take before y.values)) (drop before y.values) (word_of_marks (take before y.marks))
    (drop before y.marks) x m

-- of its answer x and the word of marks m that is handed back, given bytes and the lent window and window marks
pub record ReplayPromise (b window marks : List ℕ) (x : Reply) (m : ℕ) : Type 0 where
  -- it is the answer of the definition, refusals included
  pub answer : x ≡ replay_reply b window marks
  -- with no bit above the last place
  pub word : m ≡ word_of x.map.marks
  -- where nothing is refused, they have all that a watched run promises on what is recorded, demand 3 among it
  pub watched : refusal_of b (length window) (length marks) ≡ 0 → CycleRan (of_bytes b) x m
