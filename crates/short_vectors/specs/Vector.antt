-- Short vectors: how many iterations a stepping word makes, and which registers each uses. c is FPSCR 27:5.
use Rattle.std.specs.Prelude.{◌≡◌, ℕ, ◌+◌, ◌*◌, ◌/◌, ◌%◌, ◌^◌, ◌<◌, ◌≤◌, Bool, true, false, cond, eqb, ltb}
use Rattle.std.specs.Float.{Format, binary32, binary64}
use Rattle.registers.specs.Registers.{bank_of}
use Rattle.meaning.specs.Step.{Step}
use Rattle.short_vectors.specs.declared.vector.Vector.{Vector}

-- double precision or single
abbrev pub precision : Bool → Format
precision true = binary64
precision false = binary32

-- one iteration where d is in bank 0, else LEN + 1
abbrev pub iterations_of : Format → ℕ → ℕ → ℕ
iterations_of f c d = cond (ltb d (bank_of f)) 1 (c / 2 ^ 16 % 8 + 1)

-- 2 where bits 21:20 are 11, else 1
abbrev pub stride_of : ℕ → ℕ
stride_of c = cond (eqb (c / 2 ^ 20 % 4) 3) 2 1

-- the register of an iteration: it stays in its bank
unfoldable pub step_of : ℕ → ℕ → ℕ → ℕ → ℕ
step_of bank stride r i = r / bank * bank + (r + i * stride) % bank

-- the register m of an iteration: in bank 0 it stays
unfoldable pub second_of : ℕ → ℕ → ℕ → ℕ → ℕ
unfolding step_of
second_of bank stride m i = cond (ltb m bank) m (step_of bank stride m i)

-- iteration i of a step over d and m
abbrev pub monadic_step : Format → ℕ → (ℕ → ℕ → Step) → ℕ → ℕ → ℕ → Step
monadic_step f c one d m i = one (step_of (bank_of f) (stride_of c) d i) (second_of (bank_of f) (stride_of c) m i)

-- ---- the code's vector

pub record Vectored (f : Format) (c d : ℕ) (v : Vector) : Type 0 where
  pub iterations : v.iterations ≡ iterations_of f c d
  pub stride : v.stride ≡ stride_of c
  pub bank : v.bank ≡ bank_of f

-- what a step asks for: a bank, and numbers small enough
pub record Steppable (v : Vector) (r i : ℕ) : Type 0 where
  pub bank : 0 < v.bank
  pub few : v.bank ≤ 8
  pub stride : v.stride ≤ 2
  pub register : r < 32
  pub iteration : i < 8
