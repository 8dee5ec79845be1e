-- What the code lends of a state and its window at a time.
use Rattle.std.specs.Prelude.{ℕ, Bool}
use Rattle.place_values.specs.declared.place.Seen.{Seen}
use Rattle.place_values.specs.Place.{known_at, value_at, next_unknown, changed_at, next_change}

abbrev pub known_in : Seen → ℕ → Bool
known_in s p = known_at s.marks s.window_marks.now p

abbrev pub value_in : Seen → ℕ → ℕ
value_in s p = value_at s.state.now s.window.now p

abbrev pub next_unknown_in : Seen → ℕ → ℕ → ℕ
next_unknown_in s from end = next_unknown s.marks s.window_marks.now from end

-- what it was stands first
abbrev pub changed_in : Seen → Seen → ℕ → Bool
changed_in s t p = changed_at s.state.now s.marks s.window.now s.window_marks.now t.state.now t.marks t.window.now t.window_marks.now p

abbrev pub next_change_in : Seen → Seen → ℕ → ℕ → ℕ
next_change_in s t from end =
    next_change s.state.now s.marks s.window.now s.window_marks.now t.state.now t.marks t.window.now t.window_marks.now from end
