-- The words of a line.
use Rattle.std.specs.Prelude.{ℕ, suc, ◌-◌, Bool, true, cond, List, [], ◌∷◌, eqb, ltb, length, get_or, drop}
use Rattle.std.specs.Bool.{beq}

-- how many bytes stand before the first b
unfoldable pub before_of : ℕ → List ℕ → ℕ
before_of b [] = 0
before_of b (x ∷ xs) = cond (eqb x b) 0 (suc (before_of b xs))

-- how much of a line counts: what stands before the first '#'; where there is none, the line without a carriage return at its end
unfoldable pub content_of : List ℕ → ℕ
unfolding before_of
content_of l =
    let n = before_of 35 l in
    cond (ltb n (length l)) n (cond (eqb n 0) 0 (cond (eqb (get_or l (n - 1) 0) 13) (n - 1) n))

-- a space or a tab
abbrev pub is_gap : ℕ → Bool
is_gap b = cond (eqb b 32) true (eqb b 9)

-- how many bytes are gaps, or are none, before the first that is not so
unfoldable pub leading_of : Bool → List ℕ → ℕ
leading_of g [] = 0
leading_of g (x ∷ xs) = cond (beq (is_gap x) g) (suc (leading_of g xs)) 0

-- a line from its first word on
abbrev pub from_word : List ℕ → List ℕ
from_word l = drop (leading_of true l) l

-- a byte in front of the first of some texts
abbrev pub onto : ℕ → List (List ℕ) → List (List ℕ)
onto b [] = (b ∷ []) ∷ []
onto b (t ∷ ts) = (b ∷ t) ∷ ts

-- what stands between the bytes of a kind; after the last of them nothing more has to stand
unfoldable pub split : (ℕ → Bool) → List ℕ → List (List ℕ)
split p [] = []
split p (b ∷ t) = cond (p b) ([] ∷ split p t) (onto b (split p t))

-- the lines of a text: each up to a line feed or the text's end
abbrev pub lines_of : List ℕ → List (List ℕ)
lines_of t = split (λ b. eqb b 10) t

-- the texts that are not empty
unfoldable pub kept : List (List ℕ) → List (List ℕ)
kept [] = []
kept ([] ∷ ts) = kept ts
kept ((b ∷ t) ∷ ts) = (b ∷ t) ∷ kept ts

-- the words of a line
unfoldable pub words_of : List ℕ → List (List ℕ)
unfolding split kept
words_of l = kept (split is_gap l)
