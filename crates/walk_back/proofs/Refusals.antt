-- The refusal of a chain, test by test, and what holds where there is none.
use Prim.Native.Nat.{ℕ, ◌+◌, ◌-◌, ◌*◌, ◌/◌, ◌≤◌, ◌<◌}
use native.Mathlib.Omega.{arith}
use mathlib.Core.Path.{◌≡◌, refl, ap, sym, ◌∙◌}
use mathlib.Core.Bool.{Bool, true, false, cond}
use mathlib.Core.List.{List}
use lib.Dec.{eqb, ltb}
use lib.ListN.{length, get_or}
use borrow.Author.Tests.{ltb-false, lt-ltb, le-ltb}
use Rattle.machine.specs.Place.{word, before, place}
use Rattle.meaning.specs.Map.{Map, known}
use Rattle.place_marks.specs.Word.{map_in}
use Rattle.place_marks.proofs.Places.{place-word}
use Rattle.place_marks.proofs.Within.{within}
use Rattle.walk_back.specs.Refusal.{origin_refusal}

-- where no refusal applies the place is unknown, and the list holds 8 pairs per word run
pub record Room (q : ℕ) (μ : Map) (count size : ℕ) : Type 0 where
  pub unknown : known μ (place q) ≡ false
  pub holds : 16 * count ≤ size

pub room : (q : ℕ) (μ : Map) (count size : ℕ) → 0 ≡ origin_refusal q μ count size → Room q μ count size
unfolding origin_refusal
room q μ count size h = by (ltb q (before + length μ.words)) (known μ (place q)) (ltb (size / 2) (8 * count)) refl refl h
  where
    by : (a b c : Bool) → known μ (place q) ≡ b → ltb (size / 2) (8 * count) ≡ c → ◌≡◌ {A = ℕ} 0 (cond a (cond b 12 (cond c 13 0)) 11) → Room q μ count size
    by true true c u l e = absurd (omega arith)
    by true false true u l e = absurd (omega arith)
    by true false false u l e = record { unknown = u; holds = omega (arith, ltb-false (size / 2) (8 * count) l) }
    by false b c u l e = absurd (omega arith)

-- ---- the tests

module _ (q : ℕ) (m : ℕ) (w : List ℕ) (count size : ℕ) where
  abbrev Refuses : ℕ → Type 0
  Refuses n = n ≡ origin_refusal q (map_in m w) count size

  pub beyond : length w + before ≤ q → Refuses 11
  unfolding origin_refusal map_in
  beyond h = rw (le-ltb q (before + length w) (omega arith)) refl

  module _ (h : q < length w + before) (b : Bool) (e : b ≡ known (map_in m w) (place q)) where
    inside : ltb q (before + length (map_in m w).words) ≡ true
    unfolding map_in
    inside = lt-ltb q (before + length w) (omega arith)

    pub is_known : b ≡ true → Refuses 12
    unfolding origin_refusal
    is_known t = rw (inside, ← e, t) refl

    pub too_short : b ≡ false → size / 2 < 8 * count → Refuses 13
    unfolding origin_refusal
    too_short t l = rw (inside, ← e, t, lt-ltb (size / 2) (8 * count) l) refl

    pub none : b ≡ false → 8 * count ≤ size / 2 → Refuses 0
    unfolding origin_refusal
    none t l = rw (inside, ← e, t, le-ltb (size / 2) (8 * count) l) refl

-- a window word's mark, by the number of its place
pub window_place : (m : ℕ) (w : List ℕ) (n : ℕ) → before ≤ n → n < length w + before → eqb (get_or w (n - before) 0) 1 ≡ known (map_in m w) (place n)
unfolding map_in
window_place m w n l h =
    let e : before + (n - before) ≡ n = omega arith in
    let p : place n ≡ word (n - before) = ap place (sym e) ∙ place-word (n - before) in
    rw (p, within w (n - before) 0 1 (omega arith)) refl
