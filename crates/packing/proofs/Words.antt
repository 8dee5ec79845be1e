-- The words of what is no fraction: NaN, infinities and zeros. None is longer than its format has bits, and none is a subnormal's. Assumes nothing.
use mathlib.Core.Path.{◌≡◌, refl, sym, ap, ◌∙◌, subst}
use mathlib.Core.Logic.{inl, inr}
use mathlib.Core.Bool.{Bool, ◌&&◌, cond}
use Prim.Native.Nat.{ℕ, suc, ◌+◌, ◌*◌, ◌%◌, ◌^◌, ◌≤◌, ◌<◌}
use native.Mathlib.Nat.{le_trans, le_of_eq, one-mul, mul-pos, mul-le-mul_right, zero-lt-suc, zero-mul}
use lib.IntN.{ℤ}
use lib.Dec.{T, leb, ltb, eqb, leb→le, lit≤, lit<}
use lib.Pow.{pow_pos}
use lib.Ieee.{nan, inf, fin, Format, binary32, binary64, prec, emax, low, up, down, hid, ones, top, fits, to_bits}
use lib.Ieee.Fits.{and_l, and_r, up_pos}
use Rattle.floats.proofs.Units.{hid_pos, writes}
use Rattle.floats.proofs.Flushing.{NotSubnormal}
use Rattle.packing.proofs.Formed.{word_rest, word_lt}

pub nan_word : (f : Format) → (to_bits f nan < 2 * top f) × NotSubnormal f (to_bits f nan)
unfolding to_bits
nan_word binary32 = (lit< tt, inr (lit≤ tt))
nan_word binary64 = (lit< tt, inr (lit≤ tt))

pub inf_word : (f : Format) (s : Bool) → (to_bits f (inf s) < 2 * top f) × NotSubnormal f (to_bits f (inf s))
unfolding to_bits
inf_word f s = (word_lt f s (ones f * hid f) (ones-lt f), inr (subst (λ (x : ℕ). hid f ≤ x) (sym (word_rest f s (ones f * hid f) (ones-lt f))) (hid-le f)))
  where
    ones-lt : (f : Format) → ones f * hid f < top f
    ones-lt binary32 = lit< tt
    ones-lt binary64 = lit< tt

    hid-le : (f : Format) → hid f ≤ ones f * hid f
    hid-le binary32 = lit≤ tt
    hid-le binary64 = lit≤ tt

pub zero_word : (f : Format) (s : Bool) (e : ℤ) → (to_bits f (fin s 0 e) < 2 * top f) × NotSubnormal f (to_bits f (fin s 0 e))
zero_word f s e = (subst (λ (x : ℕ). x < 2 * top f) (sym is) (word_lt f s 0 some), inl (ap (λ (x : ℕ). x % top f) is ∙ word_rest f s 0 some))
  where
    some : 0 < top f
    some = mul-pos (hid_pos f) (zero-lt-suc (ones f))

    is : to_bits f (fin s 0 e) ≡ cond s (top f) 0 + 0
    is = writes f (fin s 0 e) s 0 0 (refl, ap (λ (x : ℕ). x * 2 ^ low f) (zero-mul (up e)) ∙ zero-mul (2 ^ low f) ∙ sym (zero-mul (down e))) (pow_pos (prec f)) (inl refl) ∙ ap (λ (x : ℕ). cond s (top f) 0 + (x + 0)) (zero-mul (hid f))

-- the smallest value is no larger than a value that is not 0
pub reaches : (f : Format) (s : Bool) (m : ℕ) (e : ℤ) → T (fits f (fin s (suc m) e)) → down e ≤ suc m * up e * 2 ^ low f
unfolding fits
reaches f s m e t =
    let a : Bool = eqb (suc m % 2) 1 in
    let b : Bool = ltb (suc m) (2 ^ prec f) in
    let c : Bool = leb (down e) (2 ^ low f) in
    let d : Bool = ltb (suc m * up e) (2 ^ suc (emax f) * down e) in
    le_trans (leb→le (down e) (2 ^ low f) (and_r (a && b) c (and_l (a && b && c) d t)))
    (le_trans (le_of_eq (sym (one-mul (2 ^ low f)))) (mul-le-mul_right (2 ^ low f) (mul-pos (zero-lt-suc m) (up_pos e))))
