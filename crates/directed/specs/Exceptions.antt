-- What the nine kinds raise by FPSCR: request 2026-07. Each operation raises its own, and those of an accumulate's two are joined. Assumes nothing.
use Rattle.std.specs.Prelude.{◌≡◌, ℕ, cond, bit_or, Float}
use Rattle.std.specs.Float.{Format}
use Rattle.rounding.specs.Rounding.{rounding_of}
use Rattle.rounding.specs.declared.rounding.Rounding.{Rounding}
use Rattle.operators.specs.Operators.{sum, product}
use Rattle.nans.specs.Nan.{negation}
use Rattle.exceptions.specs.Exceptions.{flushed_exceptions}
use Rattle.exceptions.specs.Operators.{sum_exceptions, difference_exceptions, product_exceptions, quotient_exceptions, operated_exceptions}
use Rattle.numbers.specs.Arithmetic.{accumulates}
use Rattle.numbers.specs.declared.arithmetic.Arithmetic.{Arithmetic}
use Rattle.numbers.specs.declared.arithmetic.Arithmetic.TheVariants.{MultiplyAccumulate, MultiplySubtract, NegateMultiplySubtract, NegateMultiplyAccumulate, Multiply, NegateMultiply, Add, Subtract, Divide}
use Rattle.directed.specs.Directed.{operated_by, applied_by}

-- an operator's by FPSCR 23:22, of any words
abbrev pub raised_by : (Rounding → Format → Float → Float → ℕ) → Format → ℕ → ℕ → ℕ → ℕ
raised_by raise f control a b = operated_exceptions f (raise (rounding_of control) f) a b

-- those of an accumulate's product, which is never flushed
abbrev pub first_exceptions : Format → ℕ → Arithmetic → ℕ → ℕ → ℕ
first_exceptions f control kind n m = cond (accumulates kind) (raised_by product_exceptions f control n m) 0

-- those of the last operation, on the words that `applied_by` gives it
unfoldable pub last_exceptions : Format → ℕ → Arithmetic → ℕ → ℕ → ℕ → ℕ
unfolding applied_by operated_exceptions
last_exceptions f control MultiplyAccumulate n m d = raised_by sum_exceptions f control d (operated_by product f control n m)
last_exceptions f control MultiplySubtract n m d = raised_by sum_exceptions f control d (negation f control (operated_by product f control n m))
last_exceptions f control NegateMultiplySubtract n m d = raised_by sum_exceptions f control (negation f control d) (operated_by product f control n m)
last_exceptions f control NegateMultiplyAccumulate n m d =
    raised_by sum_exceptions f control (negation f control d) (negation f control (operated_by product f control n m))
last_exceptions f control Multiply n m d = raised_by product_exceptions f control n m
last_exceptions f control NegateMultiply n m d = raised_by product_exceptions f control n m
last_exceptions f control Add n m d = raised_by sum_exceptions f control n m
last_exceptions f control Subtract n m d = raised_by difference_exceptions f control n m
last_exceptions f control Divide n m d = raised_by quotient_exceptions f control n m

-- where the result is flushed, underflow stands for the last operation's
unfoldable pub exceptions_by : Format → ℕ → Arithmetic → ℕ → ℕ → ℕ → ℕ
unfolding last_exceptions
exceptions_by f control kind n m d =
    bit_or (first_exceptions f control kind n m) (flushed_exceptions f control (applied_by f control kind n m d) (last_exceptions f control kind n m d))

-- ---- what the code's stages give

-- an operator's result and what it raises
abbrev pub IsOperated : (Rounding → Format → Float → Float → Float) → (Rounding → Format → Float → Float → ℕ) → Format → ℕ → ℕ → ℕ → ℕ → ℕ → Type 0
IsOperated op raise f control a b bits exceptions = (bits ≡ operated_by op f control a b) × (exceptions ≡ raised_by raise f control a b)

-- a sum's, and what was raised before it
abbrev pub IsAccumulated : Format → ℕ → ℕ → ℕ → ℕ → ℕ → ℕ → ℕ → Type 0
IsAccumulated f control d p raised bits first last = (bits ≡ operated_by sum f control d p) × (first ≡ raised) × (last ≡ raised_by sum_exceptions f control d p)

-- the result before flushing, and what either operation raised
abbrev pub IsComposed : Format → ℕ → Arithmetic → ℕ → ℕ → ℕ → ℕ → ℕ → ℕ → Type 0
IsComposed f control kind n m d bits first last =
    (bits ≡ applied_by f control kind n m d) × (first ≡ first_exceptions f control kind n m) × (last ≡ last_exceptions f control kind n m d)
