-- The outcome of the exported replay of a record, and what it promises.
use Rattle.std.specs.Prelude.{ℕ, ◌≤◌, ◌≡◌, Bool, cond, true, ◌&&◌, List, eqb, length, take, drop}
use Rattle.machine.specs.Machine.{new_machine}
use Rattle.machine.specs.Place.{before}
use Rattle.place_marks.specs.Word.{word_of}
use Rattle.layout.specs.State.{encode}
use Rattle.watch.specs.Watch.{Reply}
use Rattle.records.specs.Recorded.{Recorded, of_bytes, word_of_marks}
use Rattle.record_refusal.specs.Refusal.{refusal_of}
use Rattle.replay.specs.Replay.{replay_reply}
use Rattle.outcomes.specs.Outcome.{invalid_argument}
use Rattle.outcomes.specs.WatchOutcome.{WatchOutcome, watch_outcome, reported_watch}
use Rattle.outcomes.specs.WatchPromise.{WatchPromise}

-- whether a state and an answer have as many words as they should; what stands in them is not read
unfoldable pub valid_replay : ℕ → ℕ → Bool
valid_replay words answers = eqb words before && eqb answers 5

-- a replay's reply in the buffers
abbrev pub reported_replay : Reply → WatchOutcome
reported_replay y = reported_watch (word_of y.map.marks) y

-- what the replay of bytes leaves: 255 touches nothing
abbrev pub replayed : List ℕ → List ℕ → ℕ → List ℕ → List ℕ → List ℕ → WatchOutcome
replayed b l m w v a = cond (valid_replay (length l) (length a)) (reported_replay (replay_reply b w v)) (watch_outcome invalid_argument l m w v a)

-- what the exported watched run promises of its outcome x, on a state, a word of marks, a window and marks that hold what is recorded
abbrev pub WatchedRecord : Recorded → List ℕ → WatchOutcome → Type 0
WatchedRecord y a x =
    WatchPromise y.base y.list (take before y.values) (word_of_marks (take before y.marks)) (drop before y.values) (drop before y.marks) 0 a x

-- of the outcome x of a replay: bytes, and a state, a word of marks, a window, its marks and an answer at entry
pub record ReplayedPromise (b l : List ℕ) (m : ℕ) (w v a : List ℕ) (x : WatchOutcome) : Type 0 where
  -- it is what the definition leaves, 255 and refusals included
  pub leaves : x ≡ replayed b l m w v a
  -- after a refusal and after 255 the window and its marks are as they came
  pub unchanged : 100 ≤ x.result → (x.window ≡ w) × (x.window_marks ≡ v)
  -- after a refusal the state is a new machine's, and no place before the window is known
  pub renewed : valid_replay (length l) (length a) ≡ true → 100 ≤ x.result → (x.words ≡ encode new_machine) × (x.marks ≡ 0)
  -- where nothing is refused, it has all that the exported watched run promises on what is recorded
  pub watched : valid_replay (length l) (length a) ≡ true → refusal_of b (length w) (length v) ≡ 0 → WatchedRecord (of_bytes b) a x
