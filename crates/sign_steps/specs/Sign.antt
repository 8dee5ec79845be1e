-- Moves and sign changes.
use Rattle.std.specs.Prelude.{ℕ, ◌+◌, ◌%◌, ◌^◌, [], ◌∷◌}
use Rattle.std.specs.Float.{Format, binary32, binary64}
use Rattle.machine.specs.Place.{s_word, low_word, high_word}
use Rattle.meaning.specs.Step.{Step, fst}
use Rattle.sign_steps.specs.declared.sign.SignOperation.{SignOperation}
use Rattle.sign_steps.specs.declared.sign.SignOperation.TheVariants.{Copy, Absolute, Negate}

-- the word with the sign: as it is, with the sign bit cleared, with it changed
abbrev pub changed : SignOperation → ℕ → ℕ
changed Copy v = v
changed Absolute v = v % 2 ^ 31
changed Negate v = (v + 2 ^ 31) % 2 ^ 32

-- register d takes register m's bits, the word with the sign changed: of a double half by half
abbrev pub sign_step : Format → SignOperation → ℕ → ℕ → Step
sign_step binary32 sign d m = record { target = s_word d; sources = s_word m ∷ []; value = λ vs. changed sign (fst vs) } ∷ []
sign_step binary64 sign d m =
    record { target = low_word d; sources = low_word m ∷ []; value = fst }
    ∷ record { target = high_word d; sources = high_word m ∷ []; value = λ vs. changed sign (fst vs) }
    ∷ []
