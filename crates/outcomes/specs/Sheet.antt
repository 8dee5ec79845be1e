-- The outcome of the exported register sheet: its result, and the page that was lent.
use Rattle.std.specs.Prelude.{ℕ, ◌^◌, ◌<◌, ◌≤◌, ◌≡◌, cond, false, List, [], get_or, take, drop}
use Rattle.bits.specs.Field.{bit_of}
use Rattle.place_marks.specs.Word.{map_in}
use Rattle.sheet.specs.Sheet.{Reply, sheet_bytes, laid_out}
use Rattle.layout.specs.State.{decode, valid}
use Rattle.outcomes.specs.Outcome.{invalid_argument, result_of}

pub record SheetOutcome : Type 0 where
  pub result : ℕ
  pub page : List ℕ

abbrev pub sheet_outcome : ℕ → List ℕ → SheetOutcome
sheet_outcome r page = record { result = r; page = page }

abbrev pub reported_sheet : Reply → SheetOutcome
reported_sheet y = sheet_outcome (result_of y.refusal) y.page

-- of a state's words, a word of marks and a page: 255 touches nothing
abbrev pub sheeted : List ℕ → ℕ → List ℕ → SheetOutcome
sheeted l m page = cond (valid l) (reported_sheet (laid_out (decode false l) (map_in m []) page)) (sheet_outcome invalid_argument page)

-- equal s0 to s31, and equal marks of them
pub record SameSingles (l : List ℕ) (m : ℕ) (l' : List ℕ) (m' : ℕ) : Type 0 where
  pub words : (n : ℕ) → n < 32 → get_or l n 0 ≡ get_or l' n 0
  pub marks : (n : ℕ) → n < 32 → bit_of m n ≡ bit_of m' n

-- what is promised of its outcome x
pub record SheetPromise (l : List ℕ) (m : ℕ) (page : List ℕ) (x : SheetOutcome) : Type 0 where
  -- it is what the definition leaves, 255 and the refusal included
  pub leaves : x ≡ sheeted l m page
  -- after these the page is as it came
  pub unchanged : 100 ≤ x.result → x.page ≡ page
  -- and bytes past the sheet always are
  pub beyond : drop sheet_bytes x.page ≡ drop sheet_bytes page
  -- an equal sheet is one of equal words and marks: a word of the state is below 2^32
  pub tells : (l' : List ℕ) (m' : ℕ) (page' : List ℕ) → ((n : ℕ) → get_or l n 0 < 2 ^ 32) → ((n : ℕ) → get_or l' n 0 < 2 ^ 32)
      → x.result ≡ 0 → (sheeted l' m' page').result ≡ 0 → take sheet_bytes x.page ≡ take sheet_bytes (sheeted l' m' page').page
      → SameSingles l m l' m'
