-- From a register sheet to what the exported one leaves and promises.
use Prim.Native.Nat.{ℕ, ◌+◌, ◌^◌, ◌<◌, ◌≤◌}
use native.Mathlib.Omega.{arith}
use mathlib.Core.Path.{◌≡◌, refl, sym, ◌∙◌, ap}
use mathlib.Core.Bool.{Bool, true, false, not, cond}
use mathlib.Core.List.{List, []}
use lib.Dec.{eqb}
use lib.ListN.{get_or, take, drop}
use lib.Seq.{get_or-take}
use borrow.Author.Tests.{not-true, not-false, lt-ltb, eqb-true}
use Rattle.bits.specs.Field.{bit_of}
use Rattle.machine.specs.declared.Machine.{Machine}
use Rattle.machine.specs.Place.{single, place}
use Rattle.meaning.specs.Map.{known}
use Rattle.place_marks.specs.Word.{map_in}
use Rattle.place_marks.proofs.Word.{known_in_lem}
use Rattle.sheet.specs.Sheet.{sheet_bytes, reply, laid_out}
use Rattle.sheet.specs.Telling.{Words}
use Rattle.sheet.proofs.Telling.{pages_tell, pages_kept}
use Rattle.layout.specs.State.{decode, valid}
use Rattle.outcomes.specs.Outcome.{invalid_argument, result_of}
use Rattle.outcomes.specs.Sheet.{SheetOutcome, sheet_outcome, reported_sheet, sheeted, SameSingles, SheetPromise}

-- ---- a state's words and marks as those of its machine and map

single_word : (l : List ℕ) (n : ℕ) → n < 32 → get_or (decode false l).s n 0 ≡ get_or l n 0
unfolding decode
single_word l n h = get_or-take 32 l n 0 h

words : (l : List ℕ) → ((n : ℕ) → get_or l n 0 < 2 ^ 32) → Words (decode false l)
words l small n h = rw (single_word l n h) (small n)

single_mark : (m n : ℕ) → n < 32 → known (map_in m []) (single n) ≡ bit_of m n
unfolding place
single_mark m n h = rw (lt-ltb n 32 h) at (known_in_lem m [] n (omega arith))

-- ---- what the definition leaves

result_zero : (n : ℕ) → result_of n ≡ 0 → n ≡ 0
unfolding result_of
result_zero n = by (eqb n 0) (eqb n invalid_argument) refl
  where
    by : (a b : Bool) → eqb n 0 ≡ a → cond a 0 (cond b invalid_argument (100 + n)) ≡ 0 → n ≡ 0
    by true b q e = eqb-true n 0 q
    by false true q e = absurd (omega (arith, e))
    by false false q e = absurd (omega (arith, e))

module _ (l : List ℕ) (m : ℕ) (page : List ℕ) where
  laid : Bool → SheetOutcome
  laid b = cond b (reported_sheet (laid_out (decode false l) (map_in m []) page)) (sheet_outcome invalid_argument page)

  unchanged : 100 ≤ (sheeted l m page).result → (sheeted l m page).page ≡ page
  unfolding laid result_of
  unchanged = by (valid l)
    where
      by : (b : Bool) → 100 ≤ (laid b).result → (laid b).page ≡ page
      by true h = (pages_kept (decode false l) (map_in m []) page).refused (λ e. let k : 100 ≤ result_of 0 = rw e at h in omega (arith, k))
      by false h = refl

  beyond : drop sheet_bytes (sheeted l m page).page ≡ drop sheet_bytes page
  unfolding laid
  beyond = by (valid l)
    where
      by : (b : Bool) → drop sheet_bytes (laid b).page ≡ drop sheet_bytes page
      by true = (pages_kept (decode false l) (map_in m []) page).beyond
      by false = refl

  -- a result of 0 is that of a sheet
  written : (sheeted l m page).result ≡ 0 → ((sheeted l m page).page ≡ (laid_out (decode false l) (map_in m []) page).page) × ((laid_out (decode false l) (map_in m []) page).refusal ≡ 0)
  unfolding laid
  written = by (valid l)
    where
      by : (b : Bool) → (laid b).result ≡ 0 → ((laid b).page ≡ (laid_out (decode false l) (map_in m []) page).page) × ((laid_out (decode false l) (map_in m []) page).refusal ≡ 0)
      by true e = (refl, result_zero _ e)
      by false e = absurd (omega (arith, e))

tells : (l l' : List ℕ) (m m' : ℕ) (page page' : List ℕ) → ((n : ℕ) → get_or l n 0 < 2 ^ 32) → ((n : ℕ) → get_or l' n 0 < 2 ^ 32)
    → (sheeted l m page).result ≡ 0 → (sheeted l' m' page').result ≡ 0 → take sheet_bytes (sheeted l m page).page ≡ take sheet_bytes (sheeted l' m' page').page
    → SameSingles l m l' m'
tells l l' m m' page page' small small' z z' e =
    let w = written l m page z in
    let w' = written l' m' page' z' in
    let same = pages_tell (decode false l) (decode false l') (map_in m []) (map_in m' []) page page' (words l small) (words l' small') w.1 w'.1 (ap (take sheet_bytes) (sym w.0) ∙ (e ∙ ap (take sheet_bytes) w'.0)) in
    record {
      words = λ n h. sym (single_word l n h) ∙ (same.words n h ∙ single_word l' n h);
      marks = λ n h. sym (single_mark m n h) ∙ (same.marks n h ∙ single_mark m' n h);
    }

-- ---- what is promised

module _ (l : List ℕ) (m : ℕ) (page : List ℕ) where
  promised : (x : SheetOutcome) → x ≡ sheeted l m page → SheetPromise l m page x
  promised x e =
      record {
        leaves = e;
        unchanged = rw e (unchanged l m page);
        beyond = rw e (beyond l m page);
        tells = λ l' m' page' small small'. rw e (tells l l' m m' page page' small small');
      }

  module _ (b : Bool) (u : b ≡ valid l) where
    -- 255
    pub not_laid : not b ≡ true → SheetPromise l m page (sheet_outcome invalid_argument page)
    not_laid e = promised _ (rw (← u, not-true b e))

    pub has_laid : (machine : Machine) (refusal r : ℕ) (page' : List ℕ) → not b ≡ false → machine ≡ decode false l
        → ((w : List ℕ) → reply refusal page' ≡ laid_out machine (map_in m w) page) → r ≡ result_of refusal → SheetPromise l m page (sheet_outcome r page')
    has_laid machine refusal r page' e em ey er = promised _ (rw (er, ← u, not-false b e, ← em, ← ey []))
