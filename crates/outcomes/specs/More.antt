-- More known never shows less, over the buffers: one state, window and list, with two words of marks and two sets of window marks.
use Rattle.std.specs.Prelude.{ℕ, ◌<◌, ◌≤◌, ◌≡◌, true, List, get_or, take}
use Rattle.bits.specs.Field.{bit_of}
use Rattle.machine.specs.Place.{before}
use Rattle.outcomes.specs.WatchOutcome.{WatchOutcome, watched}

-- every window mark that is 1 in the first is 1 in the second, and every place's bit that is set in the first is set in the second
abbrev pub KnowsWindow : List ℕ → List ℕ → Type 0
KnowsWindow v v' = (n : ℕ) → get_or v n 0 ≡ 1 → get_or v' n 0 ≡ 1

abbrev pub KnowsWords : ℕ → ℕ → Type 0
KnowsWords m m' = (n : ℕ) → n < before → bit_of m n ≡ true → bit_of m' n ≡ true

-- the answer's word that has the count
abbrev pub count_of : WatchOutcome → ℕ
count_of x = get_or x.answer 0 0

-- of the outcomes x with the first marks, y with the second, and z with the second of the first words of the list, as many as x counted
pub record NoLess (x y z : WatchOutcome) : Type 0 where
  pub count : count_of x ≤ count_of y
  pub reached : count_of z ≡ count_of x
  pub marks : KnowsWords x.marks z.marks
  pub window_marks : KnowsWindow x.window_marks z.window_marks

-- of the outcome x, where it is no refusal: with other marks m' and window marks v', and another answer, that are not refused either
pub record MoreKnown (base : ℕ) (list l : List ℕ) (m : ℕ) (w v : List ℕ) (thumb : ℕ) (a : List ℕ) (x : WatchOutcome) : Type 0 where
  -- and know all that these know
  pub more : (m' : ℕ) (v' a' : List ℕ) → x.result < 100 → (watched base list l m' w v' thumb a').result < 100 → KnowsWords m m' → KnowsWindow v v'
      → NoLess x (watched base list l m' w v' thumb a') (watched base (take (count_of x) list) l m' w v' thumb a')
  -- or of which these know all
  pub fewer : (m' : ℕ) (v' a' : List ℕ) → x.result < 100 → (watched base list l m' w v' thumb a').result < 100 → KnowsWords m' m → KnowsWindow v' v
      → NoLess (watched base list l m' w v' thumb a') x (watched base (take (count_of (watched base list l m' w v' thumb a')) list) l m w v thumb a)
