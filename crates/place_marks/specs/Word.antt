-- The marks of the places before the window in one word of 64 bits (2026-11): bit p is the mark of place p. The map (document 01's term) is read out
-- of it, and what a word of instructions does to marks is said of the map alone.
use Rattle.std.specs.Prelude.{ℕ, zero, suc, ◌+◌, ◌*◌, ◌/◌, ◌%◌, Bool, List, [], ◌∷◌, ◌++◌}
use Rattle.bits.specs.Field.{bit_of}
use Rattle.bits.specs.Psr.{one_of}
use Rattle.machine.specs.Place.{core, flags, control, exc, nzcv, exceptions, number}
use Rattle.meaning.specs.Map.{Marks, Map, map_of}

-- n bits of a number, from bit i on
unfoldable pub bits_from : ℕ → ℕ → ℕ → List Bool
bits_from zero i m = []
bits_from (suc n) i m = bit_of m i ∷ bits_from n (i + 1) m

-- the marks that a word holds; bits above the last place say nothing
unfoldable pub marks_of : ℕ → Marks
marks_of m =
    record {
      s = bits_from 32 0 m;
      r = bits_from 16 (number (core 0)) m;
      flags = bit_of m (number flags);
      control = bit_of m (number control);
      exc = bit_of m (number exc);
      nzcv = bit_of m (number nzcv);
      exceptions = bit_of m (number exceptions);
    }

-- the map of such a word and the window's marks
unfoldable pub map_in : ℕ → List ℕ → Map
map_in m words = map_of (marks_of m) words

-- the number with these bits, the lowest first
unfoldable pub number_of : List Bool → ℕ
number_of [] = 0
number_of (b ∷ bs) = number_of bs * 2 + one_of b

-- the word of marks: above the last place no bit is set
unfoldable pub word_of : Marks → ℕ
word_of k = number_of (k.s ++ (k.r ++ (k.flags ∷ k.control ∷ k.exc ∷ k.nzcv ∷ k.exceptions ∷ [])))

-- a number with bit p set or cleared; all other bits stay
unfoldable pub with_bit : ℕ → ℕ → Bool → ℕ
with_bit m zero b = m / 2 * 2 + one_of b
with_bit m (suc p) b = with_bit (m / 2) p b * 2 + m % 2
