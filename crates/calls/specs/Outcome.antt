-- The outcome of the exported call: its result, the word of marks, and each lent buffer.
use Rattle.std.specs.Prelude.{ℕ, ◌+◌, ◌%◌, Bool, cond, ◌&&◌, List, eqb, ltb}
use Rattle.layout.specs.State.{valid}

pub record OriginOutcome : Type 0 where
  pub result : ℕ
  pub words : List ℕ
  pub marks : ℕ
  pub window : List ℕ
  pub window_marks : List ℕ
  pub pairs : List ℕ
  pub answer : List ℕ

abbrev pub origin_outcome : ℕ → List ℕ → ℕ → List ℕ → List ℕ → List ℕ → List ℕ → OriginOutcome
origin_outcome r l m w v p a = record { result = r; words = l; marks = m; window = w; window_marks = v; pairs = p; answer = a }

-- whether a state, a thumb, an answer of so many words and a list of so many numbers for pairs are valid
unfoldable pub valid_origin : List ℕ → ℕ → ℕ → ℕ → Bool
valid_origin l thumb words numbers = ltb thumb 2 && (eqb words 8 && (eqb (numbers % 2) 0 && valid l))

-- the answer's word of a refusal: 0 for none, 100 + n for refusal n
abbrev pub refusal_word : ℕ → ℕ
refusal_word n = cond (eqb n 0) 0 (100 + n)
