-- Stepping words by the number of their operation: 1 to 9 are arithmetic, 10 to 12 moves and sign changes, 13 is the root.
use Rattle.std.specs.Prelude.{ℕ, ◌-◌, ◌<◌, ◌≡◌, cond, List, [], ◌∷◌, ltb, get_or, length}
use Rattle.std.specs.Float.{Format}
use Rattle.meaning.specs.Step.{Step, Act, after_marks}
use Rattle.short_vectors.specs.Vector.{stride_of, step_of, second_of, iterations_of}
use Rattle.registers.specs.Registers.{bank_of}
use Rattle.arithmetic_steps.specs.Arithmetic.{arithmetic_step}
use Rattle.sign_steps.specs.Sign.{sign_step}
use Rattle.root_steps.specs.Root.{root_step}
use Rattle.sign_steps.specs.declared.sign.SignOperation.{SignOperation}
use Rattle.sign_steps.specs.declared.sign.SignOperation.TheVariants.{Copy, Absolute, Negate}
use Rattle.decoding.specs.Operation.{operation_numbered, arithmetic_of}
use Rattle.place_marks.specs.Word.{map_in}

abbrev pub sign_of : ℕ → SignOperation
sign_of n = get_or (Copy ∷ Absolute ∷ Negate ∷ []) (n - 10) Copy

-- a step of operation n over the registers d, a and b
abbrev pub step_by : Format → ℕ → ℕ → ℕ → ℕ → ℕ → Step
step_by f c n d a b = cond (ltb n 10) (arithmetic_step f c (arithmetic_of (operation_numbered n)) d a b) (cond (ltb n 13) (sign_step f (sign_of n) d b) (root_step f c d b))

-- its iterations
abbrev pub steps_by : Format → ℕ → ℕ → ℕ → ℕ → ℕ → ℕ → Step
steps_by f c n d a b i = step_by f c n (step_of (bank_of f) (stride_of c) d i) (step_of (bank_of f) (stride_of c) a i) (second_of (bank_of f) (stride_of c) b i)

abbrev pub stepping_act : Format → ℕ → ℕ → ℕ → ℕ → ℕ → Act
stepping_act f c n d a b = record { count = iterations_of f c d; each = steps_by f c n d a b; tail = [] }

-- the marks before each iteration
pub record Befores (f : Format) (c n d a b m : ℕ) (l : List ℕ) : Type 0 where
  pub size : length l ≡ 8
  pub marks : (t : ℕ) → t < iterations_of f c d → (w : List ℕ) → map_in (get_or l t 0) w ≡ after_marks t (steps_by f c n d a b) (map_in m w)
