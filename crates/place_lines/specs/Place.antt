-- The lines of a report that tell of a place, in bytes of ASCII.
use Rattle.std.specs.Prelude.{ℕ, Bool, cond, List, ◌++◌}
use Rattle.numerals.specs.Number.{hex_text, decimal_text}
use Rattle.place_names.specs.Place.{place_text}
use Rattle.place_lines.specs.Words as words

-- a place by its name and its number
unfoldable pub named_text : ℕ → List ℕ
named_text p = place_text p ++ (words.open_text ++ (decimal_text p ++ words.close_text))

-- a place that is unknown, the first or a later one
unfoldable pub unknown_text : Bool → ℕ → List ℕ
unknown_text first p = cond first words.first_is words.later_is ++ named_text p

-- a value: of an unknown place none is shown
unfoldable pub value_text : Bool → ℕ → List ℕ
value_text known x = cond known (hex_text x) words.unknown_is

-- a place whose mark or whose known value is another
unfoldable pub change_text : ℕ → Bool → ℕ → Bool → ℕ → List ℕ
change_text p was old is new =
    words.change_is ++ (named_text p ++ (words.first_is ++ (value_text was old ++ (words.to_is ++ value_text is new))))
