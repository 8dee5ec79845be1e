-- The marks of a register in a map, over the format: of a single its own, of a double those of both its words.
use Rattle.std.specs.Prelude.{ℕ, Bool, ◌&&◌}
use Rattle.std.specs.Float.{Format, binary32, binary64}
use Rattle.machine.specs.Place.{s_word, low_word, high_word}
use Rattle.meaning.specs.Map.{Map, known, mark}

-- a register is known when all its words are
abbrev pub known_in : Format → Map → ℕ → Bool
known_in binary32 μ n = known μ (s_word n)
known_in binary64 μ n = known μ (high_word n) && known μ (low_word n)

-- all words of a register marked alike
abbrev pub mark_in : Format → Map → ℕ → Bool → Map
mark_in binary32 μ n b = mark μ (s_word n) b
mark_in binary64 μ n b = mark (mark μ (low_word n) b) (high_word n) b

-- marks copied word by word
abbrev pub copy_in : Format → Map → ℕ → ℕ → Map
copy_in binary32 μ d m = mark μ (s_word d) (known μ (s_word m))
copy_in binary64 μ d m = mark (mark μ (low_word d) (known μ (low_word m))) (high_word d) (known μ (high_word m))
