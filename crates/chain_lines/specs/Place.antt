-- The line for a place that has no chain, in bytes of ASCII.
use Rattle.std.specs.Prelude.{ℕ, List, ◌++◌}
use Rattle.numerals.specs.Number.{decimal_text}
use Rattle.mnemonics.specs.Ascii.{ascii}
use Rattle.place_lines.specs.Place.{named_text}
use Rattle.report.specs.Line.{count_text}

-- a place that is known, by its name and its number
unfoldable pub known_text : ℕ → List ℕ
known_text p = named_text p ++ ascii " is known"

-- a place beyond the map, which has so many
unfoldable pub beyond_text : ℕ → ℕ → List ℕ
beyond_text p places =
    ascii "place " ++ (decimal_text p ++ (ascii " is beyond the map, which has " ++ (count_text places ++ ascii " places")))
