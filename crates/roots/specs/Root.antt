-- The square root of a format's value, rounded by whole-number squares. Assumes nothing.
use Prim.Native.Nat.{ℕ, zero, suc, ◌+◌, ◌-◌, ◌*◌, ◌/◌, ◌%◌, ◌^◌, ◌≤◌, ◌<◌, compare}
use Rattle.std.specs.Prelude.{◌≡◌, ◌⊎◌, Bool, true, false, cond, leb, ltb, eqb, Float}
use Rattle.std.specs.Float.{nan, inf, fin, Format, binary32, binary64}
use Rattle.std.specs.Float.Ieee.{prec, low, up, down, size, of_bits, to_bits, nan_bits}
use Rattle.floats.specs.Flush.{flush}
use Rattle.nans.specs.Nan.{nan_of}
use Rattle.exceptions.specs.Exceptions.{invalid, inexact, nan_exceptions}
use Rattle.rounding.specs.Rounding.{rounding_of, move, settled, dropped}
use Rattle.rounding.specs.declared.rounding.Rounding.{Rounding}

-- the largest number whose square is at most n, for an n below 4 ^ d, a binary digit at a time
unfoldable pub root_in : ℕ → ℕ → ℕ
root_in zero n = zero
root_in (suc d) n = let r = 2 * root_in d (n / 4) in cond (leb (suc r * suc r) n) (suc r) r

unfoldable pub isqrt : ℕ → ℕ
unfolding root_in
isqrt n = root_in (size n) n

-- the root of n / u, rounded to a whole number: it is above q and a half where n is above (q + 1/2) squared of u
abbrev pub root_cut : Rounding → ℕ → ℕ → ℕ
root_cut mode n u =
    let q = isqrt (n / u) in
    move mode false q (compare (4 * n) ((2 * q + 1) * (2 * q + 1) * u)) (eqb (q * q * u) n)

-- the root of num / den, which is above 0. In the format's smallest values it is the root of n / den, of whose whole part k digits are dropped
unfoldable pub root_of : Rounding → Format → ℕ → ℕ → Float
root_of mode f num den =
    let n = num * 2 ^ (low f + low f) in
    let k = dropped f (isqrt (n / den)) in
    settled mode f false (root_cut mode n (den * 2 ^ (k + k))) k

-- a negative number has no root, and a zero keeps its sign
unfoldable pub sqrt_of : Rounding → Format → Float → Float
sqrt_of mode f nan = nan
sqrt_of mode f (inf s) = cond s nan (inf s)
sqrt_of mode f (fin s zero e) = fin s zero e
sqrt_of mode f (fin s (suc m) e) = cond s nan (root_of mode f (suc m * up e) (down e))

-- of a word that is no NaN: rounded by the mode, and stored as a result is
unfoldable pub root_number : Format → ℕ → ℕ → ℕ
root_number f control m = flush f control (to_bits f (sqrt_of (rounding_of control) f (of_bits f m)))

-- of any word
unfoldable pub square_root : Format → ℕ → ℕ → ℕ
unfolding root_number nan_of
square_root f control m = cond (nan_bits f m) (nan_of f control m m) (root_number f control m)

-- ---- what it raises

-- the root of num / den is a value of the format: nothing is left of what `root_of` rounds
unfoldable pub exact_root : Format → ℕ → ℕ → Bool
exact_root f num den =
    let n = num * 2 ^ (low f + low f) in
    let k = dropped f (isqrt (n / den)) in
    let u = den * 2 ^ (k + k) in
    let q = isqrt (n / u) in
    eqb (q * q * u) n

-- a root is neither too large nor tiny
unfoldable pub sqrt_exceptions : Format → Float → ℕ
unfolding exact_root
sqrt_exceptions f nan = 0
sqrt_exceptions f (inf s) = cond s invalid 0
sqrt_exceptions f (fin s zero e) = 0
sqrt_exceptions f (fin s (suc m) e) = cond s invalid (cond (exact_root f (suc m * up e) (down e)) 0 inexact)

-- of any word, in every mode, and whether results are flushed or not
unfoldable pub root_exceptions : Format → ℕ → ℕ
unfolding sqrt_exceptions
root_exceptions f m = cond (nan_bits f m) (nan_exceptions f m m) (sqrt_exceptions f (of_bits f m))

-- ---- what the code's stages give

-- where the exponent of lifted digits starts, and what is added to half of one: none is below 0 and each half is whole
abbrev pub start : Format → ℕ
start f = 52 + low f % 2

abbrev pub base : Format → ℕ
base f = (low f + 54 - 2 * prec f - start f) / 2

-- a root's digits and what is left, of a number n
pub record IsRoot (n root rest : ℕ) : Type 0 where
  pub sum : root * root + rest ≡ n
  pub least : rest ≤ 2 * root

-- the root of n as a whole number, and whether n is its square
pub record IsRooted (mode : Rounding) (n most kept : ℕ) (exact : Bool) : Type 0 where
  pub kept_is : kept ≡ root_cut mode n 1
  pub below : kept ≤ most
  pub exact_is : exact ≡ eqb (isqrt n * isqrt n) n

-- the root of a value as a word, and what it raises
pub record IsSqrt (mode : Rounding) (f : Format) (v : Float) (bits raised : ℕ) : Type 0 where
  pub bits_are : bits ≡ to_bits f (sqrt_of mode f v)
  pub raised_is : raised ≡ sqrt_exceptions f v

-- 2 ^ 52 and the 52 digits of y, and twice that where the bit above them, the lowest of a normal value's exponent, is 0
abbrev pub radicand : ℕ → ℕ
radicand y = cond (ltb y (2 ^ 52)) (y * 2 + 2 ^ 53) y

-- a radicand with as many digits as a format's root needs
abbrev pub scaled : Format → ℕ → ℕ
scaled binary32 x = x / 64
scaled binary64 x = x * 2 ^ 52

-- an estimate of the root of n, with what is left of n, where it is near: then the root is below q + 3
pub record IsEstimate (n most q rest : ℕ) (near : Bool) : Type 0 where
  pub small : q < 2 ^ 60
  pub sum : near ≡ true → q * q + rest ≡ n
  pub room : near ≡ true → rest ≤ 5 * q + 6
  pub below : near ≡ true → q < most

-- ---- what a reader believes at sight: r is no further than a half from the root of n / u, and even where it is just a half away
abbrev pub NearRoot : ℕ → ℕ → ℕ → Type 0
NearRoot n u r =
    ((2 * r - 1) * (2 * r - 1) * u ≤ 4 * n)
    × (4 * n ≤ (2 * r + 1) * (2 * r + 1) * u)
    × ((4 * n ≡ (2 * r + 1) * (2 * r + 1) * u) → r % 2 ≡ 0)
    × ((4 * n ≡ (2 * r - 1) * (2 * r - 1) * u) → (r ≡ 0) ⊎ (r % 2 ≡ 0))
