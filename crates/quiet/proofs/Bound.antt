-- No operation raises more than the five exceptions. Over the mode and the format. Assumes nothing.
use Rattle.std.proofs.Common.{ℕ, ◌<◌, Bool, true, false, cond, ◌||◌, eqb, lit<}
use mathlib.Core.Bool.{beq}
use lib.Bits.{or_lt}
use lib.Ieee.{Float, nan, inf, fin, Format, neg, of_bits, nan_bits}
use Rattle.rounding.specs.Rounding.{rounding_of}
use Rattle.rounding.specs.declared.rounding.Rounding.{Rounding}
use Rattle.exceptions.proofs.Laws.{fraction_lt, nan_lt, flushed_lt}
use Rattle.exceptions.specs.Operators.{sum_exceptions, difference_exceptions, product_exceptions, quotient_exceptions, operated_exceptions}
use Rattle.numbers.specs.Arithmetic.{accumulates}
use Rattle.numbers.specs.declared.arithmetic.Arithmetic.{Arithmetic}
use Rattle.numbers.specs.declared.arithmetic.Arithmetic.TheVariants.{MultiplyAccumulate, MultiplySubtract, NegateMultiplySubtract, NegateMultiplyAccumulate, Multiply, NegateMultiply, Add, Subtract, Divide}
use Rattle.directed.specs.Directed.{applied_by}
use Rattle.directed.specs.Exceptions.{raised_by, last_exceptions, exceptions_by}

either : (b : Bool) {x y : ℕ} → x < 32 → y < 32 → cond b x y < 32
either true p q = p
either false p q = q

sum_lt : (mode : Rounding) (f : Format) (x y : Float) → sum_exceptions mode f x y < 32
unfolding sum_exceptions
sum_lt mode f nan y = lit< tt
sum_lt mode f (inf s) nan = lit< tt
sum_lt mode f (inf s) (inf t) = either (beq s t) (lit< tt) (lit< tt)
sum_lt mode f (inf s) (fin t n d) = lit< tt
sum_lt mode f (fin s m e) nan = lit< tt
sum_lt mode f (fin s m e) (inf t) = lit< tt
sum_lt mode f (fin s m e) (fin t n d) = fraction_lt mode f _ _ _

difference_lt : (mode : Rounding) (f : Format) (x y : Float) → difference_exceptions mode f x y < 32
unfolding difference_exceptions
difference_lt mode f x y = sum_lt mode f x (neg y)

product_lt : (mode : Rounding) (f : Format) (x y : Float) → product_exceptions mode f x y < 32
unfolding product_exceptions
product_lt mode f nan y = lit< tt
product_lt mode f (inf s) nan = lit< tt
product_lt mode f (inf s) (inf t) = lit< tt
product_lt mode f (inf s) (fin t n d) = either (eqb n 0) (lit< tt) (lit< tt)
product_lt mode f (fin s m e) nan = lit< tt
product_lt mode f (fin s m e) (inf t) = either (eqb m 0) (lit< tt) (lit< tt)
product_lt mode f (fin s m e) (fin t n d) = fraction_lt mode f _ _ _

quotient_lt : (mode : Rounding) (f : Format) (x y : Float) → quotient_exceptions mode f x y < 32
unfolding quotient_exceptions
quotient_lt mode f nan y = lit< tt
quotient_lt mode f (inf s) nan = lit< tt
quotient_lt mode f (inf s) (inf t) = lit< tt
quotient_lt mode f (inf s) (fin t n d) = lit< tt
quotient_lt mode f (fin s m e) nan = lit< tt
quotient_lt mode f (fin s m e) (inf t) = lit< tt
quotient_lt mode f (fin s m e) (fin t n d) = either (eqb n 0) (either (eqb m 0) (lit< tt) (lit< tt)) (fraction_lt mode f _ _ _)

operated_lt : (f : Format) (raise : Float → Float → ℕ) → ((x y : Float) → raise x y < 32) → (a b : ℕ) → operated_exceptions f raise a b < 32
unfolding operated_exceptions
operated_lt f raise h a b = either (nan_bits f a || nan_bits f b) (nan_lt f a b) (h (of_bits f a) (of_bits f b))

module _ (f : Format) (control : ℕ) where
  by_mode : (op : Rounding → Format → Float → Float → ℕ) → ((mode : Rounding) (f : Format) (x y : Float) → op mode f x y < 32) → (a b : ℕ) → raised_by op f control a b < 32
  by_mode op h a b = operated_lt f (op (rounding_of control) f) (h (rounding_of control) f) a b

  last_lt : (kind : Arithmetic) (n m d : ℕ) → last_exceptions f control kind n m d < 32
  unfolding last_exceptions
  last_lt MultiplyAccumulate n m d = by_mode sum_exceptions sum_lt _ _
  last_lt MultiplySubtract n m d = by_mode sum_exceptions sum_lt _ _
  last_lt NegateMultiplySubtract n m d = by_mode sum_exceptions sum_lt _ _
  last_lt NegateMultiplyAccumulate n m d = by_mode sum_exceptions sum_lt _ _
  last_lt Multiply n m d = by_mode product_exceptions product_lt n m
  last_lt NegateMultiply n m d = by_mode product_exceptions product_lt n m
  last_lt Add n m d = by_mode sum_exceptions sum_lt n m
  last_lt Subtract n m d = by_mode difference_exceptions difference_lt n m
  last_lt Divide n m d = by_mode quotient_exceptions quotient_lt n m

  pub exceptions_lt : (kind : Arithmetic) (n m d : ℕ) → exceptions_by f control kind n m d < 32
  unfolding exceptions_by
  exceptions_lt kind n m d =
      or_lt 5 _ _ (either (accumulates kind) (by_mode product_exceptions product_lt n m) (lit< tt))
      (flushed_lt f control (applied_by f control kind n m d) (last_exceptions f control kind n m d) (last_lt kind n m d))
