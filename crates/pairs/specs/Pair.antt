-- The meaning of a transfer between two core registers and a double or two singles (vfp.rs `move_pair`).
use Rattle.std.specs.Prelude.{ℕ, ◌+◌, ◌%◌, Bool, true, false, [], ◌∷◌}
use Rattle.std.specs.Float.{Format, binary32, binary64}
use Rattle.bits.specs.Field.{field, bit_of}
use Rattle.registers.specs.Registers.{sreg_of, dreg_of}
use Rattle.machine.specs.Place.{Place, core, s_word, low_word, high_word}
use Rattle.meaning.specs.Step.{Write, Step, copy}

-- p takes what q holds on a load (bit 20), and q what p holds on a store
abbrev pub moved : Bool → Place → Place → Write
moved true p q = copy p q
moved false p q = copy q p

-- two core registers and the words of a double, or two singles, s0 after s31; of equal core registers the second wins
abbrev pub pair_of : Bool → ℕ → Place → Place → Step
pair_of load w p q = moved load (core (field w 12 15)) p ∷ moved load (core (field w 16 19)) q ∷ []

abbrev pub pair_step : Format → ℕ → Step
pair_step binary32 w = let n = sreg_of (w % 16) (field w 5 5) in pair_of (bit_of w 20) w (s_word n) (s_word (n + 1))
pair_step binary64 w = let n = dreg_of (w % 16) (field w 5 5) in pair_of (bit_of w 20) w (low_word n) (high_word n)
