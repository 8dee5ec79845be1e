-- One step of arithmetic, and an iteration of it.
use Rattle.std.specs.Prelude.{ℕ, cond, List, [], ◌∷◌, ◌++◌}
use Rattle.std.specs.Float.{Format}
use Rattle.numbers.specs.declared.arithmetic.Arithmetic.{Arithmetic}
use Rattle.numbers.specs.Arithmetic.{accumulates}
use Rattle.directed.specs.Directed.{arithmetic_by}
use Rattle.directed.specs.Exceptions.{exceptions_by}
use Rattle.meaning.specs.Step.{Step, fst, rest, snd}
use Rattle.registers.specs.Registers.{bank_of}
use Rattle.short_vectors.specs.Vector.{stride_of, step_of, second_of}
use Rattle.short_vectors.specs.Register.{words_of, values_of, written, raising}

-- old d is read by an accumulate alone
abbrev pub operands : Arithmetic → ℕ → ℕ → ℕ → List ℕ
operands kind d n m = cond (accumulates kind) (n ∷ m ∷ d ∷ []) (n ∷ m ∷ [])

-- d takes the result, and what is raised goes into the cumulative exception bits
abbrev pub arithmetic_step : Format → ℕ → Arithmetic → ℕ → ℕ → ℕ → Step
arithmetic_step f c kind d n m =
    let sources = words_of f (operands kind d n m) in
    written f d sources (λ vs. let x = values_of f vs in arithmetic_by f c kind (fst x) (snd x) (fst (rest (rest x))))
    ++ (raising sources (λ vs. let x = values_of f vs in exceptions_by f c kind (fst x) (snd x) (fst (rest (rest x)))) ∷ [])

-- iteration i: d and n step, and m unless it is in bank 0
abbrev pub dyadic_step : Format → ℕ → Arithmetic → ℕ → ℕ → ℕ → ℕ → Step
dyadic_step f c kind d n m i = arithmetic_step f c kind (step_of (bank_of f) (stride_of c) d i) (step_of (bank_of f) (stride_of c) n i) (second_of (bank_of f) (stride_of c) m i)
