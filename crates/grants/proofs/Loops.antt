-- One turn of each loop in code.
use Prim.Native.Nat.{ℕ, ◌+◌, ◌<◌, ◌≤◌}
use native.Mathlib.Numerals.{add-one}
use mathlib.Core.Path.{◌≡◌}
use mathlib.Core.Bool.{true, false}
use mathlib.Core.List.{List}
use lib.ListN.{length, get_or, drop, drop_of_length-le}
use lib.Seq.{drop-cons}
use borrow.Author.Tests.{le-leb, lt-leb}
use Rattle.phases.specs.Round.{sum}
use Rattle.grants.specs.Refusal.{within}

-- ---- shares and limits, one by one

pub within_end : (s b : List ℕ) (i : ℕ) → length s ≤ i → true ≡ within (drop i s) (drop i b)
unfolding within
within_end s b i h = rw (drop_of_length-le s h)

module _ (s b : List ℕ) (i : ℕ) (h : i < length s) (k : i < length b) where
  pub within_on : get_or s i 0 ≤ get_or b i 0 → within (drop (i + 1) s) (drop (i + 1) b) ≡ within (drop i s) (drop i b)
  unfolding within
  within_on e = rw (add-one i, drop-cons s i 0, drop-cons b i 0, le-leb (get_or s i 0) (get_or b i 0) e)

  pub within_not : get_or b i 0 < get_or s i 0 → false ≡ within (drop i s) (drop i b)
  unfolding within
  within_not e = rw (drop-cons s i 0, drop-cons b i 0, lt-leb (get_or s i 0) (get_or b i 0) e)

pub sum_on : (l : List ℕ) (i : ℕ) → i < length l → sum (drop i l) ≡ get_or l i 0 + sum (drop (i + 1) l)
unfolding sum
sum_on l i h = rw (add-one i, drop-cons l i 0)

pub sum_end : (l : List ℕ) (i : ℕ) → length l ≤ i → sum (drop i l) ≡ 0
unfolding sum
sum_end l i h = rw (drop_of_length-le l h)
