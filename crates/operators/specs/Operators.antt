-- Sum, product and quotient in every rounding mode, over the format. The exact result is a fraction of whole numbers, which `rounded` rounds once,
-- overflow included. NaN and infinity are as in `lib.Ieee`, clause by clause, and at `Nearest` each operator is its own (proofs/Nearest). Assumes nothing.
use Rattle.std.specs.Prelude.{ℕ, ◌+◌, ◌*◌, Bool, true, false, cond, ltb, eqb, pos, Float}
use Rattle.std.specs.Bool.{beq}
use Rattle.std.specs.Float.{nan, inf, fin, Format}
use Rattle.std.specs.Float.Ieee.{up, down, unlike, neg, of_bits, to_bits}
use Rattle.rounding.specs.Rounding.{rounded, apart}
use Rattle.rounding.specs.declared.rounding.Rounding.{Rounding}
use Rattle.rounding.specs.declared.rounding.Rounding.TheVariants.{Nearest, Up, Down, Zero}

-- the sign of an exact sum of zero from operands of unlike signs: -0 in mode Down alone
abbrev pub zero_sign : Rounding → Bool
zero_sign Nearest = false
zero_sign Up = false
zero_sign Down = true
zero_sign Zero = false

-- ±a + ±b: its size, and its sign. An exact zero of unlike signs has the sign that the mode gives it.
abbrev pub sum_size : Bool → ℕ → Bool → ℕ → ℕ
sum_size s a t b = cond (beq s t) (a + b) (apart a b)

abbrev pub sum_sign : Rounding → Bool → ℕ → Bool → ℕ → Bool
sum_sign mode s a t b = cond (beq s t) s (cond (ltb a b) t (cond (ltb b a) s (zero_sign mode)))

-- ±a / c + ±b / c
unfoldable pub sum_of : Rounding → Format → Bool → ℕ → Bool → ℕ → ℕ → Float
sum_of mode f s a t b c = rounded mode f (sum_sign mode s a t b) (sum_size s a t b) c

unfoldable pub sum : Rounding → Format → Float → Float → Float
unfolding sum_of
sum mode f nan y = nan
sum mode f (inf s) nan = nan
sum mode f (inf s) (inf t) = cond (beq s t) (inf s) nan
sum mode f (inf s) (fin t n d) = inf s
sum mode f (fin s m e) nan = nan
sum mode f (fin s m e) (inf t) = inf t
sum mode f (fin s m e) (fin t n d) = sum_of mode f s (m * up e * down d) t (n * up d * down e) (down e * down d)

unfoldable pub difference : Rounding → Format → Float → Float → Float
unfolding sum neg
difference mode f x y = sum mode f x (neg y)

unfoldable pub product : Rounding → Format → Float → Float → Float
product mode f nan y = nan
product mode f (inf s) nan = nan
product mode f (inf s) (inf t) = inf (unlike s t)
product mode f (inf s) (fin t n d) = cond (eqb n 0) nan (inf (unlike s t))
product mode f (fin s m e) nan = nan
product mode f (fin s m e) (inf t) = cond (eqb m 0) nan (inf (unlike s t))
product mode f (fin s m e) (fin t n d) = rounded mode f (unlike s t) (m * up e * (n * up d)) (down e * down d)

unfoldable pub quotient : Rounding → Format → Float → Float → Float
quotient mode f nan y = nan
quotient mode f (inf s) nan = nan
quotient mode f (inf s) (inf t) = nan
quotient mode f (inf s) (fin t n d) = inf (unlike s t)
quotient mode f (fin s m e) nan = nan
quotient mode f (fin s m e) (inf t) = fin (unlike s t) 0 (pos 0)
quotient mode f (fin s m e) (fin t n d) =
    cond (eqb n 0) (cond (eqb m 0) nan (inf (unlike s t))) (rounded mode f (unlike s t) (m * up e * down d) (n * up d * down e))

-- an operator on words
abbrev pub on_words : Format → (Float → Float → Float) → ℕ → ℕ → ℕ
on_words f op a b = to_bits f (op (of_bits f a) (of_bits f b))
