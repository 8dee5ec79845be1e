-- At `Nearest` the arithmetic of one step is that of `numbers`, which native floats do. Assumes nothing.
use Rattle.std.proofs.Common.{◌≡◌, ℕ, ◌*◌, ◌/◌, ◌%◌, ◌^◌, ◌<◌, Bool, false, not, T, sym, refl, ap, ◌∙◌, subst, eq-eqb}
use lib.Ieee.{Float, Format, top, neg, add, sub, is_nan, of_bits, to_bits}
use lib.Ieee.Bits.{to_bits-of_bits}
use Rattle.rounding.specs.Rounding.{rounding_of}
use Rattle.rounding.specs.declared.rounding.Rounding.{Rounding}
use Rattle.rounding.specs.declared.rounding.Rounding.TheVariants.{Nearest}
use Rattle.operators.specs.Operators.{product}
use Rattle.numbers.specs.Arithmetic.{apply, applied}
use Rattle.numbers.specs.declared.arithmetic.Arithmetic.{Arithmetic}
use Rattle.numbers.specs.declared.arithmetic.Arithmetic.TheVariants.{MultiplyAccumulate, MultiplySubtract, NegateMultiplySubtract, NegateMultiplyAccumulate, Multiply, NegateMultiply, Add, Subtract, Divide}
use Rattle.numbers.proofs.Applying.{word_of_value}
use Rattle.directed.proofs.Values.{applied_value, applied_lt}
use Rattle.operators.proofs.Nearest.{sum_nearest, difference_nearest, product_nearest, quotient_nearest}
use Rattle.directed.specs.Directed.{apply_by, applied_by}

pub apply_nearest : (f : Format) (kind : Arithmetic) (n m d : Float) → apply_by Nearest f kind n m d ≡ apply f kind n m d
apply_nearest f MultiplyAccumulate n m d = sum_nearest f d (product Nearest f n m) ∙ ap (add f d) (product_nearest f n m)
apply_nearest f MultiplySubtract n m d = difference_nearest f d (product Nearest f n m) ∙ ap (sub f d) (product_nearest f n m)
apply_nearest f NegateMultiplySubtract n m d = sum_nearest f (neg d) (product Nearest f n m) ∙ ap (add f (neg d)) (product_nearest f n m)
apply_nearest f NegateMultiplyAccumulate n m d = difference_nearest f (neg d) (product Nearest f n m) ∙ ap (sub f (neg d)) (product_nearest f n m)
apply_nearest f Multiply n m d = product_nearest f n m
apply_nearest f NegateMultiply n m d = ap neg (product_nearest f n m)
apply_nearest f Add n m d = sum_nearest f n m
apply_nearest f Subtract n m d = difference_nearest f n m
apply_nearest f Divide n m d = quotient_nearest f n m

-- mode 00
pub mode_nearest : (control : ℕ) → control / 2 ^ 22 % 4 ≡ 0 → rounding_of control ≡ Nearest
unfolding rounding_of
mode_nearest control h = rw (eq-eqb (control / 2 ^ 22 % 4) 0 h) refl

-- a native result that is no NaN is the word by any setting of mode 00
pub native_applied : (f : Format) (control : ℕ) (kind : Arithmetic) (n m d : ℕ) → n < 2 * top f → m < 2 * top f → d < 2 * top f → control / 2 ^ 22 % 4 ≡ 0
    → is_nan (apply f kind (of_bits f n) (of_bits f m) (of_bits f d)) ≡ false → applied f kind n m d ≡ applied_by f control kind n m d
native_applied f control kind n m d p q r z h =
    word_of_value f kind n m d ∙ ap (to_bits f) (sym same)
    ∙ to_bits-of_bits f (applied_by f control kind n m d) (applied_lt f control kind n m d p q r) (subst (λ (x : Bool). T (not x)) (sym (ap is_nan same ∙ h)) tt)
  where
    same : of_bits f (applied_by f control kind n m d) ≡ apply f kind (of_bits f n) (of_bits f m) (of_bits f d)
    same =
        applied_value f control kind n m d p q r
        ∙ ap (λ (mode : Rounding). apply_by mode f kind (of_bits f n) (of_bits f m) (of_bits f d)) (mode_nearest control z)
        ∙ apply_nearest f kind (of_bits f n) (of_bits f m) (of_bits f d)
