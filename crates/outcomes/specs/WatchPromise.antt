-- What the exported watched run promises.
use Rattle.std.specs.Prelude.{ℕ, ◌^◌, ◌<◌, ◌≡◌, true, List, length, get_or}
use Rattle.place_marks.specs.Word.{map_in}
use Rattle.watch.specs.Watch.{Reply}
use Rattle.watch.specs.Promise.{Promise, WordPromise}
use Rattle.outcomes.specs.Outcome.{valid_call, decoded_state}
use Rattle.outcomes.specs.WatchOutcome.{WatchOutcome, reported_watch, watched}
use Rattle.outcomes.specs.Buffers.{UnchangedMarks, NonInterference, Above}
use Rattle.outcomes.specs.More.{MoreKnown}

-- of its outcome x: a state, a word of marks, a window, its marks, the thumb and an answer at entry
pub record WatchPromise (base : ℕ) (list l : List ℕ) (m : ℕ) (w v : List ℕ) (thumb : ℕ) (a : List ℕ) (x : WatchOutcome) : Type 0 where
  -- it is what the definition leaves, 255 and refusals included
  pub leaves : x ≡ watched base list l m w v thumb a
  -- after a refusal and after 255 the buffers are as they came: a word of the state is below 2^32
  pub unchanged : ((n : ℕ) → get_or l n 0 < 2 ^ 32) → UnchangedMarks l m w v x
  -- demand 3 over the buffers
  pub non_interference : NonInterference base list l m w v thumb a x
  -- more known never shows less
  pub more_known : MoreKnown base list l m w v thumb a x
  -- bits above the last place are ignored
  pub above : Above base list l m w v thumb a x
  -- and over what the buffers encode: where the arguments are valid, the reply that x reports has the watched run's promises
  pub reply : Reply
  pub reports : valid_call l thumb (length a) ≡ true → x ≡ reported_watch x.marks reply
  pub promise : valid_call l thumb (length a) ≡ true → Promise base list (decoded_state l w thumb) (map_in m v) reply
  pub word_promise : valid_call l thumb (length a) ≡ true → WordPromise base list (decoded_state l w thumb) m v reply x.marks
