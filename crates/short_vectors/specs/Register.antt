-- Registers of either precision as places, one for a single and two for a double, and what is done to lent singles.
use Rattle.std.specs.Prelude.{◌≡◌, ℕ, ◌+◌, ◌*◌, ◌/◌, ◌%◌, ◌^◌, List, [], ◌∷◌}
use Rattle.std.specs.Int.Bits.{bit_or}
use Rattle.std.specs.Float.{Format, binary32, binary64}
use Rattle.registers.specs.Registers.{double_of}
use Rattle.machine.specs.declared.Machine.{Machine}
use Rattle.machine.specs.Machine.{with_s, with_fpscr}
use Rattle.machine.specs.Place.{Place, s_word, low_word, high_word, exceptions, exceptions_of, state}
use Rattle.meaning.specs.Step.{Write, Step, step, after, fst, rest}

-- the words of registers
abbrev pub words_of : Format → List ℕ → List Place
words_of f [] = []
words_of binary32 (n ∷ ns) = s_word n ∷ words_of binary32 ns
words_of binary64 (n ∷ ns) = low_word n ∷ high_word n ∷ words_of binary64 ns

-- the registers' values, of their words' values
abbrev pub values_of : Format → List ℕ → List ℕ
values_of binary32 vs = vs
values_of binary64 [] = []
values_of binary64 (low ∷ []) = []
values_of binary64 (low ∷ high ∷ vs) = double_of low high ∷ values_of binary64 vs

-- register d takes a value made from the sources: of a double each half from all of them
abbrev pub written : Format → ℕ → List Place → (List ℕ → ℕ) → Step
written binary32 d sources value = record { target = s_word d; sources = sources; value = value } ∷ []
written binary64 d sources value =
    record { target = low_word d; sources = sources; value = λ vs. value vs % 2 ^ 32 }
    ∷ record { target = high_word d; sources = sources; value = λ vs. value vs / 2 ^ 32 }
    ∷ []

-- What a number operation raises is ORed into the cumulative exception bits, which are known then where they were and all that is read for them is.
abbrev pub raising : List Place → (List ℕ → ℕ) → Write
raising sources raised = record { target = exceptions; sources = exceptions ∷ sources; value = λ vs. bit_or (fst vs) (raised (rest vs)) }

-- FPSCR then
abbrev pub raised_in : ℕ → ℕ → ℕ
raised_in fpscr raised = fpscr / 2 ^ 5 * 2 ^ 5 + exceptions_of (bit_or (exceptions_of fpscr) raised)

-- ---- lent singles, in any machine

-- s' is s after a step
abbrev pub Stepped : Step → List ℕ → List ℕ → Type 0
Stepped x s s' = (q : Machine) (v : List ℕ) → state (with_s q s') v ≡ step x (state (with_s q s) v)

-- the same with FPSCR
abbrev pub SteppedWith : Step → ℕ → List ℕ → ℕ → List ℕ → Type 0
SteppedWith x fpscr s fpscr' s' = (q : Machine) (v : List ℕ) → state (with_s (with_fpscr q fpscr') s') v ≡ step x (state (with_s (with_fpscr q fpscr) s) v)

-- s' is s after the first n steps of a family
abbrev pub Iterated : ℕ → (ℕ → Step) → List ℕ → List ℕ → Type 0
Iterated n each s s' = (q : Machine) (v : List ℕ) → state (with_s q s') v ≡ after n each (state (with_s q s) v)

-- and with FPSCR
abbrev pub IteratedWith : ℕ → (ℕ → Step) → ℕ → List ℕ → ℕ → List ℕ → Type 0
IteratedWith n each fpscr s fpscr' s' = (q : Machine) (v : List ℕ) → state (with_s (with_fpscr q fpscr') s') v ≡ after n each (state (with_s (with_fpscr q fpscr) s) v)
