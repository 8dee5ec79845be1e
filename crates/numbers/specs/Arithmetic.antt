-- The arithmetic of one step. Assumes nothing.
use Rattle.std.specs.Prelude.{ℕ, Bool, true, false, Float}
use Rattle.std.specs.Float.{Format}
use Rattle.std.specs.Float.Ieee.{add, sub, mul, div, neg, of_bits, to_bits}
use Rattle.numbers.specs.declared.arithmetic.Arithmetic.{Arithmetic}
use Rattle.numbers.specs.declared.arithmetic.Arithmetic.TheVariants.{MultiplyAccumulate, MultiplySubtract, NegateMultiplySubtract, NegateMultiplyAccumulate, Multiply, NegateMultiply, Add, Subtract, Divide}

-- n and m are the operands and d the destination's old value. Each operator rounds once, so an accumulate rounds twice.
abbrev pub apply : Format → Arithmetic → Float → Float → Float → Float
apply f MultiplyAccumulate n m d = add f d (mul f n m)
apply f MultiplySubtract n m d = sub f d (mul f n m)
apply f NegateMultiplySubtract n m d = add f (neg d) (mul f n m)
apply f NegateMultiplyAccumulate n m d = sub f (neg d) (mul f n m)
apply f Multiply n m d = mul f n m
apply f NegateMultiply n m d = neg (mul f n m)
apply f Add n m d = add f n m
apply f Subtract n m d = sub f n m
apply f Divide n m d = div f n m

-- the four kinds that read the old d
abbrev pub accumulates : Arithmetic → Bool
accumulates MultiplyAccumulate = true
accumulates MultiplySubtract = true
accumulates NegateMultiplySubtract = true
accumulates NegateMultiplyAccumulate = true
accumulates Multiply = false
accumulates NegateMultiply = false
accumulates Add = false
accumulates Subtract = false
accumulates Divide = false

-- the result's word before flushing, by which every NaN is the default one
unfoldable pub applied : Format → Arithmetic → ℕ → ℕ → ℕ → ℕ
applied f kind n m d = to_bits f (apply f kind (of_bits f n) (of_bits f m) (of_bits f d))
