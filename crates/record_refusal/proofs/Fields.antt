-- Where the fields of a record stand that fits a window of so many words: the values from 2 on, the window's from 55, the marks from 55 past the
-- window's values, the window's from 108; past both, the base at 108 and the list from 109 on.
use Prim.Native.Nat.{ℕ, ◌+◌, ◌*◌, ◌≤◌}
use native.Mathlib.Omega.{arith}
use mathlib.Core.Path.{◌≡◌, ap, ◌∙◌}
use mathlib.Core.List.{List}
use lib.ListN.{length, length-drop, get_or, take, drop}
use lib.Seq.{take-take, take-add, drop_at, drop-drop, length-take-le}
use Rattle.machine.specs.Place.{before}
use Rattle.records.specs.Number.{numbers_of}
use Rattle.records.specs.Recorded.{list_count, recorded_in, of_bytes}
use Rattle.records.proofs.Laws.{numbers_length}
use Rattle.record_refusal.specs.Refusal.{Fitting}

-- the first n of n + k, and those after them
first_part : (n k : ℕ) (l : List ℕ) → take n (take (n + k) l) ≡ take n l
first_part n k l = take-take n (n + k) l (omega arith)

other_part : (n k : ℕ) (l : List ℕ) → n ≤ length l → drop n (take (n + k) l) ≡ take k (drop n l)
other_part n k l h = ap (drop n) (take-add n k l) ∙ drop_at (take n l) (take k (drop n l)) n (length-take-le n l h)

module _ (b : List ℕ) (words : ℕ) (f : Fitting b words) where
  abbrev l : List ℕ
  l = numbers_of b

  pub numbers_there : length l ≡ 109 + 2 * words + list_count l
  numbers_there = rw (numbers_length b) (omega (arith, f.bytes))

  values_is : (of_bytes b).values ≡ take (before + words) (drop 2 l)
  unfolding recorded_in
  values_is = rw f.stated

  marks_is : (of_bytes b).marks ≡ take (before + words) (drop (55 + words) l)
  unfolding recorded_in
  marks_is = let e : 2 + (before + words) ≡ 55 + words = omega arith in rw (f.stated, e)

  pub base_is : (of_bytes b).base ≡ get_or l (108 + 2 * words) 0
  unfolding recorded_in
  base_is = let e : 2 + 2 * (before + words) ≡ 108 + 2 * words = omega arith in rw (f.stated, e)

  pub list_is : (of_bytes b).list ≡ take (list_count l) (drop (109 + 2 * words) l)
  unfolding recorded_in
  list_is = let e : 3 + 2 * (before + words) ≡ 109 + 2 * words = omega arith in rw (f.stated, e)

  pub state_is : take before (of_bytes b).values ≡ take before (drop 2 l)
  state_is = ap (take before) values_is ∙ first_part before words (drop 2 l)

  pub window_is : drop before (of_bytes b).values ≡ take words (drop 55 l)
  window_is =
      let h : before ≤ length (drop 2 l) = rw (length-drop 2 l) (omega (arith, numbers_there)) in
      ap (drop before) values_is ∙ (other_part before words (drop 2 l) h ∙ ap (take words) (drop-drop before 2 l))

  pub known_is : take before (of_bytes b).marks ≡ take before (drop (55 + words) l)
  known_is = ap (take before) marks_is ∙ first_part before words (drop (55 + words) l)

  pub window_known_is : drop before (of_bytes b).marks ≡ take words (drop (108 + words) l)
  window_known_is =
      let e : 55 + words + before ≡ 108 + words = omega arith in
      let h : before ≤ length (drop (55 + words) l) = rw (length-drop (55 + words) l) (omega (arith, numbers_there)) in
      let g = ap (take words) (drop-drop before (55 + words) l) ∙ ap (λ (n : ℕ). take words (drop n l)) e in
      ap (drop before) marks_is ∙ (other_part before words (drop (55 + words) l) h ∙ g)

  -- a part of the numbers is as long as it should be
  pub part : (n k : ℕ) → n + k ≤ length l → length (take k (drop n l)) ≡ k
  part n k h = length-take-le k (drop n l) (rw (length-drop n l) (omega arith))

  pub window_length : length (drop before (of_bytes b).values) ≡ words
  window_length = ap length window_is ∙ part 55 words (omega (arith, numbers_there))

  pub window_known_length : length (drop before (of_bytes b).marks) ≡ words
  window_known_length = ap length window_known_is ∙ part (108 + words) words (omega (arith, numbers_there))

  pub list-length : length (of_bytes b).list ≡ list_count l
  list-length = ap length list_is ∙ part (109 + 2 * words) (list_count l) (omega (arith, numbers_there))
