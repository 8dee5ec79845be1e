-- Numbers of places.
use mathlib.Core.Path.{◌≡◌}
use mathlib.Core.Bool.{cond}
use Prim.Native.Nat.{ℕ, ◌-◌, ◌<◌, ◌≤◌}
use native.Mathlib.Omega.{arith}
use native.Mathlib.Decide.{dec_lt}
use lib.Dec.{ltb}
use borrow.Author.Tests.{lt-ltb, le-ltb}
use Rattle.machine.specs.Place.{single, core, word, flags, control, exc, nzcv, exceptions, number, place, before}

-- the place of a number has that number
pub number-place : (n : ℕ) → number (place n) ≡ n
unfolding place
number-place n = by (dec_lt n 32) (dec_lt n 48) (dec_lt n 49) (dec_lt n 50) (dec_lt n 51) (dec_lt n 52) (dec_lt n before)
  where
    not_lt : {m : ℕ} → (n < m → ⊥) → m ≤ n
    not_lt h = omega arith

    by : Dec (n < 32) → Dec (n < 48) → Dec (n < 49) → Dec (n < 50) → Dec (n < 51) → Dec (n < 52) → Dec (n < before)
        → number (cond (ltb n 32) (single n) (cond (ltb n 48) (core (n - 32)) (cond (ltb n 49) flags (cond (ltb n 50) control (cond (ltb n 51) exc (cond (ltb n 52) nzcv (cond (ltb n before) exceptions (word (n - before))))))))) ≡ n
    by (yes a) b c d e f g = rw (lt-ltb _ _ a)
    by (no a) (yes b) c d e f g = rw (le-ltb _ _ (not_lt a), lt-ltb _ _ b) (omega arith)
    by (no a) (no b) (yes c) d e f g = rw (le-ltb _ _ (not_lt a), le-ltb _ _ (not_lt b), lt-ltb _ _ c) (omega arith)
    by (no a) (no b) (no c) (yes d) e f g = rw (le-ltb _ _ (not_lt a), le-ltb _ _ (not_lt b), le-ltb _ _ (not_lt c), lt-ltb _ _ d) (omega arith)
    by (no a) (no b) (no c) (no d) (yes e) f g = rw (le-ltb _ _ (not_lt a), le-ltb _ _ (not_lt b), le-ltb _ _ (not_lt c), le-ltb _ _ (not_lt d), lt-ltb _ _ e) (omega arith)
    by (no a) (no b) (no c) (no d) (no e) (yes f) g = rw (le-ltb _ _ (not_lt a), le-ltb _ _ (not_lt b), le-ltb _ _ (not_lt c), le-ltb _ _ (not_lt d), le-ltb _ _ (not_lt e), lt-ltb _ _ f) (omega arith)
    by (no a) (no b) (no c) (no d) (no e) (no f) (yes g) = rw (le-ltb _ _ (not_lt a), le-ltb _ _ (not_lt b), le-ltb _ _ (not_lt c), le-ltb _ _ (not_lt d), le-ltb _ _ (not_lt e), le-ltb _ _ (not_lt f), lt-ltb _ _ g) (omega arith)
    by (no a) (no b) (no c) (no d) (no e) (no f) (no g) = rw (le-ltb _ _ (not_lt a), le-ltb _ _ (not_lt b), le-ltb _ _ (not_lt c), le-ltb _ _ (not_lt d), le-ltb _ _ (not_lt e), le-ltb _ _ (not_lt f), le-ltb _ _ (not_lt g)) (omega arith)
