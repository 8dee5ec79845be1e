-- An exit or a stop in the five words of an answer.
use Rattle.std.specs.Prelude.{ℕ, ◌%◌, ◌^◌, List, [], ◌∷◌}
use Rattle.meaning.specs.Stop.{Report}

-- count, place, address, word, and the number of known places, in 32 bits: only a refused run's marks can be more; a call's count is 0, and where there are no
-- marks none is known
abbrev pub answer_of : ℕ → Report → ℕ → List ℕ
answer_of count p known = count ∷ p.place ∷ p.address ∷ p.word ∷ known % 2 ^ 32 ∷ []
