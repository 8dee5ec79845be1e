-- What an operator gives is a value of its format, so that its word is read back as it was. Over the mode and the format. Assumes nothing.
use Rattle.std.proofs.Common.{ℕ, suc, ◌-◌, ◌*◌, ◌/◌, ◌^◌, ◌<◌, ◌≤◌, Bool, true, false, cond, T, eqb, ltb, subst, le_trans, lt_of_le_of_lt, le_of_lt, arith, lit<, ltb→lt}
use mathlib.Core.Bool.{beq}
use native.Mathlib.Nat.{div-div-eq-div-mul}
use lib.Pow.{pow-lt}
use lib.Ieee.{Float, nan, inf, fin, Format, binary32, binary64, prec, low, odd, up, down, unlike, fits}
use lib.Ieee.Fits.{odd-fits, kept-lt, cond-fits, nan-fits, inf-fits}
use Rattle.rounding.specs.Rounding.{cut_to, largest, beyond, limit, settled, dropped, rounded}
use Rattle.rounding.specs.declared.rounding.Rounding.{Rounding}
use Rattle.rounding.specs.declared.rounding.Rounding.TheVariants.{Nearest, Up, Down, Zero}
use Rattle.operators.specs.Operators.{sum_size, sum_sign, sum, product, quotient}
use Rattle.rounding.proofs.Cutting.{move-le}

largest-fits : (f : Format) (s : Bool) → T (fits f (largest f s))
largest-fits binary32 s = odd-fits binary32 24 s (2 ^ 24 - 1) 253 (lit< tt) (le_of_lt (lit< tt)) (lit< tt)
largest-fits binary64 s = odd-fits binary64 53 s (2 ^ 53 - 1) 2045 (lit< tt) (le_of_lt (lit< tt)) (lit< tt)

beyond-fits : (mode : Rounding) (f : Format) (s : Bool) → T (fits f (beyond mode f s))
beyond-fits Nearest f s = inf-fits f s
beyond-fits Up f true = largest-fits f true
beyond-fits Up f false = inf-fits f false
beyond-fits Down f true = inf-fits f true
beyond-fits Down f false = largest-fits f false
beyond-fits Zero f s = largest-fits f s

settled-fits : (mode : Rounding) (f : Format) (s : Bool) (c k : ℕ) → c ≤ 2 ^ prec f → T (fits f (settled mode f s c k))
settled-fits mode f s c k h = go (ltb (c * 2 ^ k) (limit f)) (ltb→lt (c * 2 ^ k) (limit f))
  where
    go : (b : Bool) → (T b → c * 2 ^ k < limit f) → T (fits f (cond b (odd (suc (prec f)) s c k (low f)) (beyond mode f s)))
    go true l = odd-fits f (suc (prec f)) s c k (lt_of_le_of_lt h (pow-lt (next (prec f)))) h (l tt)
      where
        next : (n : ℕ) → n < suc n
        next n = omega arith
    go false l = beyond-fits mode f s

rounded-fits : (mode : Rounding) (f : Format) (s : Bool) (num den : ℕ) → T (fits f (rounded mode f s num den))
unfolding rounded
rounded-fits mode f s num den =
    let n = num * 2 ^ low f in
    let k = dropped f (n / den) in
    settled-fits mode f s (cut_to mode s n (den * 2 ^ k)) k
    (le_trans (move-le mode s (n / (den * 2 ^ k)) _ _) (subst (λ (x : ℕ). x < 2 ^ prec f) (div-div-eq-div-mul n den (2 ^ k)) (kept-lt (prec f) (n / den))))

pub product-fits : (mode : Rounding) (f : Format) (x y : Float) → T (fits f (product mode f x y))
unfolding product
product-fits mode f nan y = nan-fits f
product-fits mode f (inf s) nan = nan-fits f
product-fits mode f (inf s) (inf t) = inf-fits f (unlike s t)
product-fits mode f (inf s) (fin t n d) = cond-fits f (eqb n 0) nan (inf (unlike s t)) (nan-fits f) (inf-fits f (unlike s t))
product-fits mode f (fin s m e) nan = nan-fits f
product-fits mode f (fin s m e) (inf t) = cond-fits f (eqb m 0) nan (inf (unlike s t)) (nan-fits f) (inf-fits f (unlike s t))
product-fits mode f (fin s m e) (fin t n d) = rounded-fits mode f (unlike s t) (m * up e * (n * up d)) (down e * down d)

pub sum-fits : (mode : Rounding) (f : Format) (x y : Float) → T (fits f (sum mode f x y))
unfolding sum
sum-fits mode f nan y = nan-fits f
sum-fits mode f (inf s) nan = nan-fits f
sum-fits mode f (inf s) (inf t) = cond-fits f (beq s t) (inf s) nan (inf-fits f s) (nan-fits f)
sum-fits mode f (inf s) (fin t n d) = inf-fits f s
sum-fits mode f (fin s m e) nan = nan-fits f
sum-fits mode f (fin s m e) (inf t) = inf-fits f t
sum-fits mode f (fin s m e) (fin t n d) =
    rounded-fits mode f (sum_sign mode s (m * up e * down d) t (n * up d * down e)) (sum_size s (m * up e * down d) t (n * up d * down e)) (down e * down d)

pub quotient-fits : (mode : Rounding) (f : Format) (x y : Float) → T (fits f (quotient mode f x y))
unfolding quotient fits
quotient-fits mode f nan y = nan-fits f
quotient-fits mode f (inf s) nan = nan-fits f
quotient-fits mode f (inf s) (inf t) = nan-fits f
quotient-fits mode f (inf s) (fin t n d) = inf-fits f (unlike s t)
quotient-fits mode f (fin s m e) nan = nan-fits f
quotient-fits mode f (fin s m e) (inf t) = tt
quotient-fits mode f (fin s m e) (fin t n d) =
    cond-fits f (eqb n 0) _ _ (cond-fits f (eqb m 0) nan (inf (unlike s t)) (nan-fits f) (inf-fits f (unlike s t)))
    (rounded-fits mode f (unlike s t) (m * up e * down d) (n * up d * down e))
