-- The name of a word's operation, in bytes of ASCII.
use Rattle.std.specs.Prelude.{ℕ, cond, List, [], ◌∷◌, eqb}
use Rattle.disassembly.specs.Line.{word_text}

-- what a text has before its first space
unfoldable pub before_space : List ℕ → List ℕ
before_space [] = []
before_space (b ∷ l) = cond (eqb b 32) [] (b ∷ before_space l)

-- of a word in the manual's spelling that is the name, with its precision and its condition
unfoldable pub operation_name : ℕ → List ℕ
operation_name w = before_space (word_text w)
