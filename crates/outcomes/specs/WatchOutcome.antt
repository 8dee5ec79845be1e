-- The outcome of the exported watched run.
use Rattle.std.specs.Prelude.{ℕ, cond, List, length}
use Rattle.machine.specs.Place.{State}
use Rattle.place_marks.specs.Word.{map_in}
use Rattle.known_places.specs.Count.{known_places}
use Rattle.watch.specs.Watch.{Reply, limit_of, watch_reply, handed_back}
use Rattle.layout.specs.State.{encode}
use Rattle.answer.specs.Answer.{answer_of}
use Rattle.outcomes.specs.Outcome.{invalid_argument, valid_call, decoded_state}

-- the result, the word of marks, and each lent buffer
pub record WatchOutcome : Type 0 where
  pub result : ℕ
  pub words : List ℕ
  pub marks : ℕ
  pub window : List ℕ
  pub window_marks : List ℕ
  pub answer : List ℕ

abbrev pub watch_outcome : ℕ → List ℕ → ℕ → List ℕ → List ℕ → List ℕ → WatchOutcome
watch_outcome r l m w v a = record { result = r; words = l; marks = m; window = w; window_marks = v; answer = a }

-- a reply in the buffers, with the word of marks that is handed back; its map says how many places are known, after a refusal too
abbrev pub reported_watch : ℕ → Reply → WatchOutcome
reported_watch m y = watch_outcome y.report.kind (encode y.leaves.machine) m y.leaves.window y.map.words (answer_of y.count y.report (known_places y.map))

-- the watched run from a machine with its window, a word of marks and the window's marks
abbrev pub watched_from : ℕ → List ℕ → State → ℕ → List ℕ → WatchOutcome
watched_from base list st m v =
    let y = watch_reply base list st (map_in m v) in
    reported_watch (handed_back (limit_of base list st (map_in m v)) m y.map) y

-- what a watched run leaves: 255 touches nothing
abbrev pub watched : ℕ → List ℕ → List ℕ → ℕ → List ℕ → List ℕ → ℕ → List ℕ → WatchOutcome
watched base list l m w v thumb a = cond (valid_call l thumb (length a)) (watched_from base list (decoded_state l w thumb) m v) (watch_outcome invalid_argument l m w v a)
