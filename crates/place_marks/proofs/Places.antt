-- Places by their numbers.
use mathlib.Core.Path.{◌≡◌, refl, subst}
use Prim.Native.Nat.{ℕ, ◌+◌, ◌-◌, ◌<◌}
use native.Mathlib.Omega.{arith}
use native.Mathlib.Decide.{dec_lt}
use borrow.Author.Tests.{lt-ltb, le-ltb}
use Rattle.machine.specs.Place.{single, core, word, flags, control, exc, nzcv, exceptions, before, number, place}

pub place-single : (n : ℕ) → n < 32 → place n ≡ single n
unfolding place
place-single n h = rw (lt-ltb n 32 h)

pub place-core : (n : ℕ) → n < 16 → place (32 + n) ≡ core n
unfolding place
place-core n h = let e : 32 + n - 32 ≡ n = omega arith in rw (le-ltb (32 + n) 32 (omega arith), lt-ltb (32 + n) 48 (omega arith), e)

pub place-word : (n : ℕ) → place (before + n) ≡ word n
unfolding place
place-word n =
    let e : before + n - before ≡ n = omega arith in
    rw (le-ltb (before + n) 32 (omega arith), le-ltb (before + n) 48 (omega arith), le-ltb (before + n) 49 (omega arith), le-ltb (before + n) 50 (omega arith), le-ltb (before + n) 51 (omega arith), le-ltb (before + n) 52 (omega arith), le-ltb (before + n) before (omega arith), e)

pub place-flags : place (number flags) ≡ flags
unfolding place
place-flags = refl

pub place-control : place (number control) ≡ control
unfolding place
place-control = refl

pub place-exc : place (number exc) ≡ exc
unfolding place
place-exc = refl

pub place-nzcv : place (number nzcv) ≡ nzcv
unfolding place
place-nzcv = refl

pub place-exceptions : place (number exceptions) ≡ exceptions
unfolding place
place-exceptions = refl

-- what holds of every single, every core register and the five others holds of every place before the window
pub by_number : (P : ℕ → Type 0) → ((n : ℕ) → n < 32 → P n) → ((n : ℕ) → n < 16 → P (32 + n)) → P 48 → P 49 → P 50 → P 51 → P 52 → (n : ℕ) → n < before → P n
by_number P s r f c e z x n h = by (dec_lt n 32) (dec_lt n 48) (dec_lt n 49) (dec_lt n 50) (dec_lt n 51) (dec_lt n 52)
  where
    by : Dec (n < 32) → Dec (n < 48) → Dec (n < 49) → Dec (n < 50) → Dec (n < 51) → Dec (n < 52) → P n
    by (yes a) b i j k l = s n a
    by (no a) (yes b) i j k l = let q : 32 + (n - 32) ≡ n = omega (arith, a, b) in subst P q (r (n - 32) (omega (arith, a, b)))
    by (no a) (no b) (yes i) j k l = let q : 48 ≡ n = omega arith in subst P q f
    by (no a) (no b) (no i) (yes j) k l = let q : 49 ≡ n = omega arith in subst P q c
    by (no a) (no b) (no i) (no j) (yes k) l = let q : 50 ≡ n = omega arith in subst P q e
    by (no a) (no b) (no i) (no j) (no k) (yes l) = let q : 51 ≡ n = omega arith in subst P q z
    by (no a) (no b) (no i) (no j) (no k) (no l) = let q : 52 ≡ n = omega arith in subst P q x
