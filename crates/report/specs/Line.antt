-- The lines of a report that tell of the run, in bytes of ASCII.
use Rattle.std.specs.Prelude.{ℕ, ◌+◌, ◌-◌, ◌%◌, ◌^◌, Bool, cond, List, [], ◌++◌, eqb, ltb, length, get_or}
use Rattle.numerals.specs.Number.{hex_text, decimal_text}
use Rattle.place_names.specs.Place.{place_text}
use Rattle.place_lines.specs.Words.{close_text}
use Rattle.report.specs.Words as words

-- a count, of at most 32 bits
abbrev pub count_text : ℕ → List ℕ
count_text n = decimal_text (n % 2 ^ 32)

-- a word of the list by its index: the first is word 1
unfoldable pub word_text : List ℕ → ℕ → List ℕ
word_text list i =
    cond (ltb i (length list))
    (words.at_word_text ++ (count_text (i + 1) ++ (words.of_text ++ (count_text (length list) ++ (words.colon_text ++ hex_text (get_or list i 0))))))
    []

-- the last of so many words
unfoldable pub last_text : List ℕ → ℕ → List ℕ
last_text list count = cond (ltb 0 count) (word_text list (count - 1)) []

-- r15 as it stands, if it is known
unfoldable pub r15_text : Bool → ℕ → List ℕ
r15_text known x = cond known (words.r15_is ++ hex_text x) words.r15_unknown

-- the place that a run hangs on
unfoldable pub hung_text : ℕ → List ℕ
hung_text p = words.hangs_on ++ (place_text p ++ (words.place_is ++ (decimal_text p ++ close_text)))

-- the stop, by the number of its kind, with the count, the place and the address of the answer
unfoldable pub stop_text : ℕ → ℕ → ℕ → ℕ → List ℕ → Bool → ℕ → List ℕ
stop_text kind count place address list known r15 =
    cond (eqb kind 0) (words.finished_is ++ r15_text known r15)
    (cond (eqb kind 1) (words.foreign_is ++ (word_text list count ++ r15_text known r15))
    (cond (eqb kind 2) (words.undefined_is ++ (word_text list count ++ (words.address_is ++ hex_text address)))
    (cond (eqb kind 3) (words.branched_is ++ (last_text list count ++ r15_text known r15))
    (cond (eqb kind 4) (hung_text place ++ (word_text list count ++ r15_text known r15)) (words.refused_is ++ decimal_text kind)))))

-- how many words of all were run, and how many are left
unfoldable pub ran_text : ℕ → ℕ → List ℕ
ran_text count all =
    words.ran_is ++ (count_text count ++ (words.of_text ++ (count_text all ++ (words.words_is ++ (count_text (all - count) ++ words.left_is)))))

-- how many places of all are known
unfoldable pub known_text : ℕ → ℕ → List ℕ
known_text n all = count_text n ++ (words.of_text ++ (count_text all ++ words.places_known))
