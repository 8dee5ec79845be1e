-- What remains of a period goes round in order from the first routine, one word at a time, to those with room.
use Rattle.std.specs.Prelude.{ℕ, zero, suc, ◌+◌, min, cond, ◌&&◌, List, [], ◌∷◌, ltb, length, get_or, set}

unfoldable pub sum : List ℕ → ℕ
sum [] = 0
sum (x ∷ xs) = x + sum xs

-- what routine i may have at most: the smaller of its limit and its words left
abbrev pub most : List ℕ → List ℕ → ℕ → ℕ
most limits left i = min (get_or limits i 0) (get_or left i 0)

-- routine i's turn: one word more for it, if it has room and the period has a word that nobody has
unfoldable pub turn : ℕ → (ℕ → ℕ) → ℕ → List ℕ → List ℕ
turn period most i grants = cond (ltb (get_or grants i 0) (most i) && ltb (sum grants) period) (set grants i (get_or grants i 0 + 1)) grants

-- the turns of the first n routines, in order
unfoldable pub turns : ℕ → (ℕ → ℕ) → ℕ → List ℕ → List ℕ
turns period most zero grants = grants
turns period most (suc n) grants = turn period most n (turns period most n grants)

-- k rounds: after the last routine's turn comes the first's again
unfoldable pub rounds : ℕ → (ℕ → ℕ) → ℕ → List ℕ → List ℕ
rounds period most zero grants = grants
rounds period most (suc k) grants = rounds period most k (turns period most (length grants) grants)
