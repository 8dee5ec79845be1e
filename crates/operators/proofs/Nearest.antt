-- At `Nearest` the operators are the logic's own. Assumes nothing.
use mathlib.Core.Path.{◌≡◌, refl, ap, ◌∙◌}
use mathlib.Core.Bool.{Bool, true, false, ◌&&◌, cond, beq}
use Prim.Native.Nat.{ℕ, ◌+◌, ◌-◌, ◌*◌, ◌≤◌, ◌<◌}
use native.Mathlib.Omega.{arith}
use borrow.Author.Tests.{ltb-true, ltb-false}
use lib.Dec.{ltb, eqb}
use lib.Ieee as ieee
use lib.Ieee.{Float, nan, inf, fin, Format, up, down, unlike, neg, add, sub, mul, div}
use Rattle.rounding.specs.Rounding.{rounded, apart}
use Rattle.rounding.specs.declared.rounding.Rounding.TheVariants.{Nearest}
use Rattle.packing.proofs.Written.{rounded_nearest}
use Rattle.operators.specs.Operators.{sum_of, sum, difference, product, quotient}

sum_of_nearest : (f : Format) (s : Bool) (a : ℕ) (t : Bool) (b c : ℕ) → sum_of Nearest f s a t b c ≡ ieee.sum f s a t b c
unfolding sum_of ieee.sum
sum_of_nearest f s a t b c = go (beq s t) (ltb a b) (ltb b a) (ltb-true a b) (ltb-false a b)
  where
    off : (s z : Bool) → cond z s false ≡ (s && z)
    off true true = refl
    off true false = refl
    off false true = refl
    off false false = refl

    over : (a b : ℕ) → a < b → apart a b ≡ b - a
    over a b l = omega arith

    under : (a b : ℕ) → b ≤ a → apart a b ≡ a - b
    under a b l = omega arith

    go : (x y z : Bool) → (y ≡ true → a < b) → (y ≡ false → b ≤ a) → rounded Nearest f (cond x s (cond y t (cond z s false))) (cond x (a + b) (apart a b)) c
        ≡ cond x (ieee.round f s (a + b) c) (cond y (ieee.round f t (b - a) c) (ieee.round f (s && z) (a - b) c))
    go true y z p q = rounded_nearest f s (a + b) c
    go false true z p q = rounded_nearest f t (apart a b) c ∙ ap (λ (n : ℕ). ieee.round f t n c) (over a b (p refl))
    go false false z p q =
        rounded_nearest f (cond z s false) (apart a b) c
        ∙ ap (λ (w : Bool). ieee.round f w (apart a b) c) (off s z)
        ∙ ap (λ (n : ℕ). ieee.round f (s && z) n c) (under a b (q refl))

pub sum_nearest : (f : Format) (x y : Float) → sum Nearest f x y ≡ add f x y
unfolding sum add
sum_nearest f nan y = refl
sum_nearest f (inf s) nan = refl
sum_nearest f (inf s) (inf t) = refl
sum_nearest f (inf s) (fin t n d) = refl
sum_nearest f (fin s m e) nan = refl
sum_nearest f (fin s m e) (inf t) = refl
sum_nearest f (fin s m e) (fin t n d) = sum_of_nearest f s (m * up e * down d) t (n * up d * down e) (down e * down d)

pub difference_nearest : (f : Format) (x y : Float) → difference Nearest f x y ≡ sub f x y
unfolding difference sub
difference_nearest f x y = sum_nearest f x (neg y)

pub product_nearest : (f : Format) (x y : Float) → product Nearest f x y ≡ mul f x y
unfolding product mul
product_nearest f nan y = refl
product_nearest f (inf s) nan = refl
product_nearest f (inf s) (inf t) = refl
product_nearest f (inf s) (fin t n d) = refl
product_nearest f (fin s m e) nan = refl
product_nearest f (fin s m e) (inf t) = refl
product_nearest f (fin s m e) (fin t n d) = rounded_nearest f (unlike s t) (m * up e * (n * up d)) (down e * down d)

pub quotient_nearest : (f : Format) (x y : Float) → quotient Nearest f x y ≡ div f x y
unfolding quotient div
quotient_nearest f nan y = refl
quotient_nearest f (inf s) nan = refl
quotient_nearest f (inf s) (inf t) = refl
quotient_nearest f (inf s) (fin t n d) = refl
quotient_nearest f (fin s m e) nan = refl
quotient_nearest f (fin s m e) (inf t) = refl
quotient_nearest f (fin s m e) (fin t n d) =
    ap (λ (x : Float). cond (eqb n 0) (cond (eqb m 0) nan (inf (unlike s t))) x) (rounded_nearest f (unlike s t) (m * up e * down d) (n * up d * down e))
