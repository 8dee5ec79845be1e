-- What lines and pages tell, and what of a page is kept.
use Rattle.std.specs.Prelude.{ℕ, ◌^◌, ◌<◌, ◌≡◌, List, length, get_or, take, drop}
use Rattle.machine.specs.declared.Machine.{Machine}
use Rattle.machine.specs.Place.{single}
use Rattle.meaning.specs.Map.{Map, known}
use Rattle.sheet.specs.Line.{Line, characters}
use Rattle.sheet.specs.Sheet.{Reply, sheet_bytes, laid_out}

-- a line has exactly 40 characters before its line feed
abbrev pub Forty : Type 0
Forty = (x : Line) → length (characters x) ≡ 40

-- a number of two digits, and two words
pub record Fits (x : Line) : Type 0 where
  pub number : x.number < 100
  pub high : x.high < 2 ^ 32
  pub low : x.low < 2 ^ 32

-- equal lines mean equal number, words and marks
abbrev pub LinesTell : Type 0
LinesTell = (x y : Line) → Fits x → Fits y → characters x ≡ characters y → x ≡ y

-- s0 to s31 hold words
abbrev pub Words : Machine → Type 0
Words m = (n : ℕ) → n < 32 → get_or m.s n 0 < 2 ^ 32

-- two machines and maps that are equal in s0 to s31 and in their marks
pub record Same (m m' : Machine) (μ μ' : Map) : Type 0 where
  pub words : (n : ℕ) → n < 32 → get_or m.s n 0 ≡ get_or m'.s n 0
  pub marks : (n : ℕ) → n < 32 → known μ (single n) ≡ known μ' (single n)

-- equal sheets mean equal words and marks, whatever stands past them on their pages
abbrev pub PagesTell : Type 0
PagesTell =
    (m m' : Machine) (μ μ' : Map) (page page' : List ℕ)
    → Words m → Words m' → (laid_out m μ page).refusal ≡ 0 → (laid_out m' μ' page').refusal ≡ 0
    → take sheet_bytes (laid_out m μ page).page ≡ take sheet_bytes (laid_out m' μ' page').page
    → Same m m' μ μ'

-- a page that is turned away is untouched, and bytes past the sheet are on every page
pub record Kept (page : List ℕ) (y : Reply) : Type 0 where
  pub refused : (y.refusal ≡ 0 → ⊥) → y.page ≡ page
  pub beyond : drop sheet_bytes y.page ≡ drop sheet_bytes page

abbrev pub PagesKept : Type 0
PagesKept = (m : Machine) (μ : Map) (page : List ℕ) → Kept page (laid_out m μ page)
