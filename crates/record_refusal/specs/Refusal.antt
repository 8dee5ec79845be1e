-- Which record is turned away (2026-03, 2026-07).
use Rattle.std.specs.Prelude.{ℕ, ◌+◌, ◌-◌, ◌*◌, ◌≡◌, Bool, cond, true, false, ◌&&◌, List, eqb, leb, length, get_or, take, drop}
use Rattle.machine.specs.Place.{State, state, before}
use Rattle.meaning.specs.Map.{Map}
use Rattle.place_marks.specs.Word.{map_in}
use Rattle.window_marks.specs.Marks.{bits_only}
use Rattle.layout.specs.State.{decode, valid}
use Rattle.watch.specs.Watch.{limit_of}
use Rattle.records.specs.Number.{numbers_of}
use Rattle.records.specs.Recorded.{Recorded, list_count, of_bytes, sized, word_of_marks}

-- the machine that a record holds, its Thumb bit clear, with its window, and the map
abbrev pub state_in : Recorded → State
state_in x = state (decode false (take before x.values)) (drop before x.values)

abbrev pub map_of : Recorded → Map
map_of x = map_in (word_of_marks (take before x.marks)) (drop before x.marks)

-- the first refusal of the watched run on it, or 0
abbrev pub limit_in : Recorded → ℕ
limit_in x = limit_of x.base x.list (state_in x) (map_of x)

-- else 9: bit 31 of the first number set, as many bytes as the sizes call for, no fewer state words than places before the window, and buffers of so many words and marks that are as
-- long as the window
unfoldable pub fits : List ℕ → ℕ → ℕ → Bool
fits b words marks =
    let stated = get_or (numbers_of b) 1 0 in
    sized b && (leb before stated && (eqb words (stated - before) && eqb marks (stated - before)))

-- else 10: no bit outside a place's own, and the marks before the window 0 or 1
unfoldable pub well_formed : Recorded → Bool
well_formed x = valid (take before x.values) && bits_only (take before x.marks)

-- the first refusal that applies, or 0: 9, 10, then that of the watched run on what is recorded
unfoldable pub refusal_of : List ℕ → ℕ → ℕ → ℕ
refusal_of b words marks =
    let x = of_bytes b in
    cond (fits b words marks) (cond (well_formed x) (limit_in x) 10) 9

-- as facts: the counts of a record that fits a window of so many words
pub record Fitting (b : List ℕ) (words : ℕ) : Type 0 where
  pub stated : get_or (numbers_of b) 1 0 ≡ before + words
  pub bytes : length b ≡ 4 * (3 + 2 * (before + words) + list_count (numbers_of b))

-- and of a record that is not refused
pub record Accepted (b : List ℕ) (words : ℕ) : Type 0 where
  pub fitting : Fitting b words
  pub formed : well_formed (of_bytes b) ≡ true
  pub within : limit_in (of_bytes b) ≡ 0
