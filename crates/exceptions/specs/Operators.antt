-- What sum, difference, product and quotient raise, clause by clause beside the values of `operators`. Assumes nothing.
use Rattle.std.specs.Prelude.{ℕ, ◌*◌, ◌≡◌, Bool, cond, ◌||◌, eqb, Float}
use Rattle.std.specs.Bool.{beq}
use Rattle.std.specs.Float.{nan, inf, fin, Format}
use Rattle.std.specs.Float.Ieee.{up, down, unlike, neg, of_bits, nan_bits}
use Rattle.rounding.specs.declared.rounding.Rounding.{Rounding}
use Rattle.operators.specs.Operators.{sum_size, sum_sign, on_words}
use Rattle.exceptions.specs.Exceptions.{invalid, division_by_zero, fraction_exceptions, nan_exceptions}

-- ±a / c + ±b / c
unfoldable pub sum_of_exceptions : Rounding → Format → Bool → ℕ → Bool → ℕ → ℕ → ℕ
unfolding fraction_exceptions
sum_of_exceptions mode f s a t b c = fraction_exceptions mode f (sum_sign mode s a t b) (sum_size s a t b) c

-- infinity less infinity is invalid
unfoldable pub sum_exceptions : Rounding → Format → Float → Float → ℕ
unfolding sum_of_exceptions
sum_exceptions mode f nan y = 0
sum_exceptions mode f (inf s) nan = 0
sum_exceptions mode f (inf s) (inf t) = cond (beq s t) 0 invalid
sum_exceptions mode f (inf s) (fin t n d) = 0
sum_exceptions mode f (fin s m e) nan = 0
sum_exceptions mode f (fin s m e) (inf t) = 0
sum_exceptions mode f (fin s m e) (fin t n d) = sum_of_exceptions mode f s (m * up e * down d) t (n * up d * down e) (down e * down d)

unfoldable pub difference_exceptions : Rounding → Format → Float → Float → ℕ
unfolding sum_exceptions neg
difference_exceptions mode f x y = sum_exceptions mode f x (neg y)

-- 0 times infinity is invalid
unfoldable pub product_exceptions : Rounding → Format → Float → Float → ℕ
unfolding fraction_exceptions
product_exceptions mode f nan y = 0
product_exceptions mode f (inf s) nan = 0
product_exceptions mode f (inf s) (inf t) = 0
product_exceptions mode f (inf s) (fin t n d) = cond (eqb n 0) invalid 0
product_exceptions mode f (fin s m e) nan = 0
product_exceptions mode f (fin s m e) (inf t) = cond (eqb m 0) invalid 0
product_exceptions mode f (fin s m e) (fin t n d) = fraction_exceptions mode f (unlike s t) (m * up e * (n * up d)) (down e * down d)

-- 0 / 0 and infinity / infinity are invalid; a finite number that is not 0 divided by 0 is the division by zero, infinity / 0 is none
unfoldable pub quotient_exceptions : Rounding → Format → Float → Float → ℕ
unfolding fraction_exceptions
quotient_exceptions mode f nan y = 0
quotient_exceptions mode f (inf s) nan = 0
quotient_exceptions mode f (inf s) (inf t) = invalid
quotient_exceptions mode f (inf s) (fin t n d) = 0
quotient_exceptions mode f (fin s m e) nan = 0
quotient_exceptions mode f (fin s m e) (inf t) = 0
quotient_exceptions mode f (fin s m e) (fin t n d) =
    cond (eqb n 0) (cond (eqb m 0) invalid division_by_zero) (fraction_exceptions mode f (unlike s t) (m * up e * down d) (n * up d * down e))

-- an operator's exceptions on words that are no NaN, and on any: the rule of `operated` of `nans`
abbrev pub exceptions_on : Format → (Float → Float → ℕ) → ℕ → ℕ → ℕ
exceptions_on f op a b = op (of_bits f a) (of_bits f b)

unfoldable pub operated_exceptions : Format → (Float → Float → ℕ) → ℕ → ℕ → ℕ
operated_exceptions f op a b = cond (nan_bits f a || nan_bits f b) (nan_exceptions f a b) (exceptions_on f op a b)

-- a result and what was raised are an operator's on words that are no NaN
abbrev pub IsResult : Format → (Float → Float → Float) → (Float → Float → ℕ) → ℕ → ℕ → ℕ → ℕ → Type 0
IsResult f op raise a b bits exceptions = (bits ≡ on_words f op a b) × (exceptions ≡ exceptions_on f raise a b)
