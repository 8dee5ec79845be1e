-- The words of the lines that tell of the run, in bytes of ASCII.
use Rattle.std.specs.Prelude.{ℕ, List, [], ◌∷◌}

-- ' at word '
abbrev pub at_word_text : List ℕ
at_word_text = 32 ∷ 97 ∷ 116 ∷ 32 ∷ 119 ∷ 111 ∷ 114 ∷ 100 ∷ 32 ∷ []

-- ' of '
abbrev pub of_text : List ℕ
of_text = 32 ∷ 111 ∷ 102 ∷ 32 ∷ []

-- ': '
abbrev pub colon_text : List ℕ
colon_text = 58 ∷ 32 ∷ []

-- ', r15 '
abbrev pub r15_is : List ℕ
r15_is = 44 ∷ 32 ∷ 114 ∷ 49 ∷ 53 ∷ 32 ∷ []

-- ', r15 unknown'
abbrev pub r15_unknown : List ℕ
r15_unknown = 44 ∷ 32 ∷ 114 ∷ 49 ∷ 53 ∷ 32 ∷ 117 ∷ 110 ∷ 107 ∷ 110 ∷ 111 ∷ 119 ∷ 110 ∷ []

-- 'hangs on '
abbrev pub hangs_on : List ℕ
hangs_on = 104 ∷ 97 ∷ 110 ∷ 103 ∷ 115 ∷ 32 ∷ 111 ∷ 110 ∷ 32 ∷ []

-- ' (place '
abbrev pub place_is : List ℕ
place_is = 32 ∷ 40 ∷ 112 ∷ 108 ∷ 97 ∷ 99 ∷ 101 ∷ 32 ∷ []

-- 'finished'
abbrev pub finished_is : List ℕ
finished_is = 102 ∷ 105 ∷ 110 ∷ 105 ∷ 115 ∷ 104 ∷ 101 ∷ 100 ∷ []

-- 'foreign'
abbrev pub foreign_is : List ℕ
foreign_is = 102 ∷ 111 ∷ 114 ∷ 101 ∷ 105 ∷ 103 ∷ 110 ∷ []

-- 'undefined'
abbrev pub undefined_is : List ℕ
undefined_is = 117 ∷ 110 ∷ 100 ∷ 101 ∷ 102 ∷ 105 ∷ 110 ∷ 101 ∷ 100 ∷ []

-- ', address '
abbrev pub address_is : List ℕ
address_is = 44 ∷ 32 ∷ 97 ∷ 100 ∷ 100 ∷ 114 ∷ 101 ∷ 115 ∷ 115 ∷ 32 ∷ []

-- 'branched'
abbrev pub branched_is : List ℕ
branched_is = 98 ∷ 114 ∷ 97 ∷ 110 ∷ 99 ∷ 104 ∷ 101 ∷ 100 ∷ []

-- 'refused: '
abbrev pub refused_is : List ℕ
refused_is = 114 ∷ 101 ∷ 102 ∷ 117 ∷ 115 ∷ 101 ∷ 100 ∷ 58 ∷ 32 ∷ []

-- 'ran '
abbrev pub ran_is : List ℕ
ran_is = 114 ∷ 97 ∷ 110 ∷ 32 ∷ []

-- ' words, '
abbrev pub words_is : List ℕ
words_is = 32 ∷ 119 ∷ 111 ∷ 114 ∷ 100 ∷ 115 ∷ 44 ∷ 32 ∷ []

-- ' left'
abbrev pub left_is : List ℕ
left_is = 32 ∷ 108 ∷ 101 ∷ 102 ∷ 116 ∷ []

-- ' places known'
abbrev pub places_known : List ℕ
places_known = 32 ∷ 112 ∷ 108 ∷ 97 ∷ 99 ∷ 101 ∷ 115 ∷ 32 ∷ 107 ∷ 110 ∷ 111 ∷ 119 ∷ 110 ∷ []
