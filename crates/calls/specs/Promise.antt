-- What the exported call promises.
use Rattle.std.specs.Prelude.{ℕ, ◌≡◌, true, false, List, [], ◌∷◌, ◌++◌, length, take}
use Rattle.place_marks.specs.Word.{map_in}
use Rattle.watch.specs.Watch.{watch_reply}
use Rattle.outcomes.specs.Outcome.{invalid_argument, decoded_state}
use Rattle.outcomes.specs.WatchOutcome.{watch_outcome}
use Rattle.outcomes.specs.WatchPromise.{WatchPromise}
use Rattle.origin.specs.Origin.{OriginPromise}
use Rattle.calls.specs.Outcome.{OriginOutcome, origin_outcome, valid_origin, refusal_word}

-- where the arguments are valid: of a refusal of the chain, its first place and the number of its pairs
pub record OriginCalled (base : ℕ) (list l : List ℕ) (m : ℕ) (w v : List ℕ) (thumb q : ℕ) (p a : List ℕ) (x : OriginOutcome) : Type 0 where
  -- the first five words of the answer are those of the watched run, and it has all that is promised of one
  pub run : WatchPromise base list l m w v thumb (take 5 a) (watch_outcome x.result x.words x.marks x.window x.window_marks (take 5 x.answer))
  pub refusal : ℕ
  pub first : ℕ
  pub pairs : ℕ
  -- the other three say these
  pub answer : x.answer ≡ take 5 x.answer ++ (refusal_word refusal ∷ first ∷ pairs ∷ [])
  -- and they are what is promised of the run's answer
  pub origin : OriginPromise base list (decoded_state l w thumb) (map_in m v) q (watch_reply base list (decoded_state l w thumb) (map_in m v)) p x.pairs refusal first pairs

-- of its outcome x: a state, a word of marks, a window, its marks, the thumb, a place, a list for pairs and an answer at entry
pub record OriginCallPromise (base : ℕ) (list l : List ℕ) (m : ℕ) (w v : List ℕ) (thumb q : ℕ) (p a : List ℕ) (x : OriginOutcome) : Type 0 where
  -- 255 touches nothing
  pub invalid : valid_origin l thumb (length a) (length p) ≡ false → x ≡ origin_outcome invalid_argument l m w v p a
  pub called : valid_origin l thumb (length a) (length p) ≡ true → OriginCalled base list l m w v thumb q p a x
