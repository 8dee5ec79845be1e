-- An unknown one of some places: the first, or else one of the others.
use Prim.Native.Nat.{ℕ, ◌+◌, ◌*◌, ◌%◌}
use native.Mathlib.Omega.{arith}
use mathlib.Core.Path.{◌≡◌, refl, ap, ◌∙◌}
use mathlib.Core.Bool.{Bool, true, false, ◌&&◌, false≢true}
use mathlib.Core.Logic.{inl, inr}
use mathlib.Core.List.{List, [], ◌∷◌}
use Rattle.machine.specs.Place.{Place, single, place, s_word, low_word, high_word}
use Rattle.registers.proofs.Halves.{low_index_lem, high_index_lem}
use Rattle.meaning.specs.Map.{Map, known}
use Rattle.meaning.specs.Step.{all_known}
use Rattle.place_marks.specs.Word.{map_in}
use Rattle.place_marks.proofs.Places.{place-single}
use Rattle.chains.specs.Chain.{Among}

-- the places of a register's words, by number
pub single_place : (n : ℕ) → place (n % 32) ≡ s_word n
single_place n = place-single (n % 32) (omega arith)

pub low_place : (n : ℕ) → place (n % 16 * 2) ≡ low_word n
low_place n = place-single (n % 16 * 2) (omega arith) ∙ ap single (low_index_lem n)

pub high_place : (n : ℕ) → place (n % 16 * 2 + 1) ≡ high_word n
high_place n = place-single (n % 16 * 2 + 1) (omega arith) ∙ ap single (high_index_lem n)

-- p is among them and unknown
abbrev pub One : Map → List Place → Place → Type 0
One μ ps p = Among p ps × (known μ p ≡ false)

abbrev pub Picked : Map → List Place → Place → Type 0
Picked μ ps p = all_known μ ps ≡ false → One μ ps p

and-true : (x y : Bool) → y ≡ true → (x && y) ≡ false → x ≡ false
and-true true true g h = h
and-true true false g h = absurd (false≢true g)
and-true false y g h = refl

module _ (μ : Map) where
  -- one place alone is not looked at
  pub pick_last : (p : Place) → Picked μ (p ∷ []) p
  pick_last p h = (inl refl, h)

  pub pick_first : (p : Place) (ps : List Place) → known μ p ≡ false → One μ (p ∷ ps) p
  pick_first p ps u = (inl refl, u)

  pub pick_on : (q : Place) (ps : List Place) (p : Place) → known μ q ≡ true → Picked μ ps p → Picked μ (q ∷ ps) p
  pick_on q ps p g f h = let o = f (and-true (all_known μ ps) (known μ q) g h) in (inr o.0, o.1)

-- b tells whether place p is known
abbrev pub Tells : ℕ → ℕ → Bool → Type 0
Tells m p b = (w : List ℕ) → b ≡ known (map_in m w) (place p)
