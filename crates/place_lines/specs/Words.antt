-- The words of the lines that tell of a place, in bytes of ASCII.
use Rattle.std.specs.Prelude.{ℕ, List, [], ◌∷◌}

-- ' ('
abbrev pub open_text : List ℕ
open_text = 32 ∷ 40 ∷ []

-- ')'
abbrev pub close_text : List ℕ
close_text = 41 ∷ []

-- ' '
abbrev pub first_is : List ℕ
first_is = 32 ∷ []

-- ', '
abbrev pub later_is : List ℕ
later_is = 44 ∷ 32 ∷ []

-- 'unknown'
abbrev pub unknown_is : List ℕ
unknown_is = 117 ∷ 110 ∷ 107 ∷ 110 ∷ 111 ∷ 119 ∷ 110 ∷ []

-- 'LF  '
abbrev pub change_is : List ℕ
change_is = 10 ∷ 32 ∷ 32 ∷ []

-- ' -> '
abbrev pub to_is : List ℕ
to_is = 32 ∷ 45 ∷ 62 ∷ 32 ∷ []

-- 'exceptions:'
abbrev pub exceptions_is : List ℕ
exceptions_is = 101 ∷ 120 ∷ 99 ∷ 101 ∷ 112 ∷ 116 ∷ 105 ∷ 111 ∷ 110 ∷ 115 ∷ 58 ∷ []

-- 'invalid'
abbrev pub invalid_is : List ℕ
invalid_is = 105 ∷ 110 ∷ 118 ∷ 97 ∷ 108 ∷ 105 ∷ 100 ∷ []

-- 'division by zero'
abbrev pub division_is : List ℕ
division_is = 100 ∷ 105 ∷ 118 ∷ 105 ∷ 115 ∷ 105 ∷ 111 ∷ 110 ∷ 32 ∷ 98 ∷ 121 ∷ 32 ∷ 122 ∷ 101 ∷ 114 ∷ 111 ∷ []

-- 'overflow'
abbrev pub overflow_is : List ℕ
overflow_is = 111 ∷ 118 ∷ 101 ∷ 114 ∷ 102 ∷ 108 ∷ 111 ∷ 119 ∷ []

-- 'underflow'
abbrev pub underflow_is : List ℕ
underflow_is = 117 ∷ 110 ∷ 100 ∷ 101 ∷ 114 ∷ 102 ∷ 108 ∷ 111 ∷ 119 ∷ []

-- 'inexact'
abbrev pub inexact_is : List ℕ
inexact_is = 105 ∷ 110 ∷ 101 ∷ 120 ∷ 97 ∷ 99 ∷ 116 ∷ []

-- 'none'
abbrev pub none_is : List ℕ
none_is = 110 ∷ 111 ∷ 110 ∷ 101 ∷ []
