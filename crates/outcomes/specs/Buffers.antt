-- What the header promises over the buffers themselves, of the outcomes that the contracts of the exported functions name.
use Rattle.std.specs.Prelude.{ℕ, ◌%◌, ◌^◌, ◌<◌, ◌≤◌, ◌≡◌, true, List, [], eqb, length, get_or}
use Rattle.bits.specs.Field.{bit_of}
use Rattle.machine.specs.Place.{before}
use Rattle.processing.specs.Data.{data_tree}
use Rattle.transfers.specs.Transfer.{transfer_tree}
use Rattle.vfp.specs.Call.{reply, load_store_reply}
use Rattle.run.specs.Run.{run_reply}
use Rattle.outcomes.specs.Outcome.{Outcome, valid_call, called, ran, renewed}
use Rattle.outcomes.specs.WatchOutcome.{WatchOutcome, watched}

-- after a refusal, 100 and more, and after 255 the state and the window are word for word those that came
abbrev pub Unchanged : List ℕ → List ℕ → Outcome → Type 0
Unchanged l w x = 100 ≤ x.result → (x.words ≡ l) × (x.window ≡ w)

-- and so are the word of marks, bits above the last place included, and the window's marks
abbrev pub UnchangedMarks : List ℕ → ℕ → List ℕ → List ℕ → WatchOutcome → Type 0
UnchangedMarks l m w v x = 100 ≤ x.result → (x.words ≡ l) × (x.marks ≡ m) × (x.window ≡ w) × (x.window_marks ≡ v)

-- each exported function keeps what came, from any words: a word is below 2^32
pub record UnchangedEach (l w : List ℕ) (thumb : ℕ) (a : List ℕ) : Type 0 where
  pub renewing : Unchanged l [] (renewed l)
  pub processing : (word : ℕ) → Unchanged l w (called (reply (data_tree (eqb thumb 1) word)) l w thumb a)
  pub transferring : (word : ℕ) → Unchanged l w (called (reply (transfer_tree (eqb thumb 1) word)) l w thumb a)
  pub accessing : (base word : ℕ) → Unchanged l w (called (load_store_reply base word) l w thumb a)
  pub running : (base : ℕ) (list : List ℕ) → Unchanged l w (ran (run_reply base list) l w thumb a)
  pub watching : (base : ℕ) (list : List ℕ) (m : ℕ) (v : List ℕ) → UnchangedMarks l m w v (watched base list l m w v thumb a)

abbrev pub Refusals : Type 0
Refusals = (l w : List ℕ) (thumb : ℕ) (a : List ℕ) → ((n : ℕ) → get_or l n 0 < 2 ^ 32) → UnchangedEach l w thumb a

-- equal in every window word whose mark is 1, and in every word of the state whose bit is set
abbrev pub SameWindow : List ℕ → List ℕ → List ℕ → Type 0
SameWindow marks x y = (n : ℕ) → get_or marks n 0 ≡ 1 → get_or x n 0 ≡ get_or y n 0

abbrev pub SameWords : ℕ → List ℕ → List ℕ → Type 0
SameWords marks x y = (n : ℕ) → n < before → bit_of marks n ≡ true → get_or x n 0 ≡ get_or y n 0

-- equal results, answers, marks and window marks, and states and windows that are equal in every word that these call known
pub record Alike (x y : WatchOutcome) : Type 0 where
  pub result : x.result ≡ y.result
  pub answer : x.answer ≡ y.answer
  pub marks : x.marks ≡ y.marks
  pub window_marks : x.window_marks ≡ y.window_marks
  pub words : SameWords x.marks x.words y.words
  pub window : SameWindow x.window_marks x.window y.window

-- demand 3, of the outcome x: from another state and another window of the same size that are equal in every word that the marks call known,
-- within the limits or not
abbrev pub NonInterference : ℕ → List ℕ → List ℕ → ℕ → List ℕ → List ℕ → ℕ → List ℕ → WatchOutcome → Type 0
NonInterference base list l m w v thumb a x =
    (l' w' a' : List ℕ)
    → valid_call l thumb (length a) ≡ true → valid_call l' thumb (length a') ≡ true → length w ≡ length w'
    → SameWords m l l' → SameWindow v w w'
    → Alike x (watched base list l' m w' v thumb a')

-- bits above the last place are ignored: of the outcome x, where it is no refusal, with every word of marks that differs there alone
abbrev pub Above : ℕ → List ℕ → List ℕ → ℕ → List ℕ → List ℕ → ℕ → List ℕ → WatchOutcome → Type 0
Above base list l m w v thumb a x = (m' : ℕ) → x.result < 100 → m' % 2 ^ before ≡ m % 2 ^ before → watched base list l m' w v thumb a ≡ x
