-- The arithmetic of one step by a rounding mode, on values and on words. On values it is at `Nearest` that of `numbers` (proofs/Nearest); a word's value
-- is that of its operands' values (proofs/Values). Assumes nothing.
use Rattle.std.specs.Prelude.{ℕ, Float}
use Rattle.std.specs.Float.{Format}
use Rattle.std.specs.Float.Ieee.{neg}
use Rattle.floats.specs.Flush.{flush}
use Rattle.rounding.specs.Rounding.{rounding_of}
use Rattle.rounding.specs.declared.rounding.Rounding.{Rounding}
use Rattle.operators.specs.Operators.{sum, difference, product, quotient}
use Rattle.nans.specs.Nan.{operated, negation}
use Rattle.numbers.specs.declared.arithmetic.Arithmetic.{Arithmetic}
use Rattle.numbers.specs.declared.arithmetic.Arithmetic.TheVariants.{MultiplyAccumulate, MultiplySubtract, NegateMultiplySubtract, NegateMultiplyAccumulate, Multiply, NegateMultiply, Add, Subtract, Divide}

-- Each operator rounds once, so both steps of an accumulate round by the mode. A negation is exact.
abbrev pub apply_by : Rounding → Format → Arithmetic → Float → Float → Float → Float
apply_by mode f MultiplyAccumulate n m d = sum mode f d (product mode f n m)
apply_by mode f MultiplySubtract n m d = difference mode f d (product mode f n m)
apply_by mode f NegateMultiplySubtract n m d = sum mode f (neg d) (product mode f n m)
apply_by mode f NegateMultiplyAccumulate n m d = difference mode f (neg d) (product mode f n m)
apply_by mode f Multiply n m d = product mode f n m
apply_by mode f NegateMultiply n m d = neg (product mode f n m)
apply_by mode f Add n m d = sum mode f n m
apply_by mode f Subtract n m d = difference mode f n m
apply_by mode f Divide n m d = quotient mode f n m

-- ---- the same on words

-- an operator by FPSCR 23:22, whose NaN is `nan_of`'s
abbrev pub operated_by : (Rounding → Format → Float → Float → Float) → Format → ℕ → ℕ → ℕ → ℕ
operated_by op f control a b = operated f control (op (rounding_of control) f) a b

-- the result's word before flushing. Each minus that an accumulate puts before old d or the product is a negation; subtraction is none.
unfoldable pub applied_by : Format → ℕ → Arithmetic → ℕ → ℕ → ℕ → ℕ
unfolding operated negation
applied_by f control MultiplyAccumulate n m d = operated_by sum f control d (operated_by product f control n m)
applied_by f control MultiplySubtract n m d = operated_by sum f control d (negation f control (operated_by product f control n m))
applied_by f control NegateMultiplySubtract n m d = operated_by sum f control (negation f control d) (operated_by product f control n m)
applied_by f control NegateMultiplyAccumulate n m d =
    operated_by sum f control (negation f control d) (negation f control (operated_by product f control n m))
applied_by f control Multiply n m d = operated_by product f control n m
applied_by f control NegateMultiply n m d = negation f control (operated_by product f control n m)
applied_by f control Add n m d = operated_by sum f control n m
applied_by f control Subtract n m d = operated_by difference f control n m
applied_by f control Divide n m d = operated_by quotient f control n m

-- flushed by bit 24
unfoldable pub arithmetic_by : Format → ℕ → Arithmetic → ℕ → ℕ → ℕ → ℕ
unfolding applied_by
arithmetic_by f control kind n m d = flush f control (applied_by f control kind n m d)
