-- The number of known places (2026-08): of the marks before the window those that are set, of the window's those that are 1.
use Rattle.std.specs.Prelude.{ℕ, ◌+◌, Bool, List, [], ◌∷◌, ◌++◌}
use Rattle.bits.specs.Psr.{one_of}
use Rattle.window_marks.specs.Marks.{ones_of}
use Rattle.meaning.specs.Map.{Marks, Map}

unfoldable pub trues : List Bool → ℕ
trues [] = 0
trues (b ∷ bs) = one_of b + trues bs

-- of the places before the window
unfoldable pub known_before : Marks → ℕ
known_before k = trues (k.s ++ (k.r ++ (k.flags ∷ k.control ∷ k.exc ∷ k.nzcv ∷ k.exceptions ∷ [])))

-- of all places
unfoldable pub known_places : Map → ℕ
known_places μ = known_before μ.marks + ones_of μ.words
