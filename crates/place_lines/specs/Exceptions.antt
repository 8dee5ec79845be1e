-- The line of a report that spells the cumulative exceptions, in bytes of ASCII.
use Rattle.std.specs.Prelude.{ℕ, ◌/◌, ◌%◌, Bool, true, cond, not, ◌&&◌, ◌||◌, List, [], ◌++◌, eqb}
use Rattle.place_values.specs.Place.{differs_of}
use Rattle.place_lines.specs.Words as words

-- a name that is told or not, the first or a later one
unfoldable pub raised_text : Bool → Bool → List ℕ → List ℕ
raised_text told first name = cond told (cond first words.first_is words.later_is ++ name) []

-- those of bits 0 to 4 that are set, in this order: it is the first of which no bit below is set
unfoldable pub exceptions_text : ℕ → List ℕ
exceptions_text x =
    words.exceptions_is
    ++ (raised_text (eqb (x % 2) 1) true words.invalid_is
    ++ (raised_text (eqb (x / 2 % 2) 1) (eqb (x % 2) 0) words.division_is
    ++ (raised_text (eqb (x / 4 % 2) 1) (eqb (x % 4) 0) words.overflow_is
    ++ (raised_text (eqb (x / 8 % 2) 1) (eqb (x % 8) 0) words.underflow_is
    ++ (raised_text (eqb (x / 16 % 2) 1) (eqb (x % 16) 0) words.inexact_is ++ raised_text (eqb (x % 32) 0) true words.none_is)))))

-- they are told where they are known, and one is set or they are others than before
unfoldable pub exceptions_told : Bool → ℕ → Bool → ℕ → Bool
exceptions_told was old is new = is && (not (eqb new 0) || differs_of was old is new)
