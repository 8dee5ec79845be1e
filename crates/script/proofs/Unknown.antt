-- Places that are unknown, one after the other, as a line names them.
use Prim.Native.Nat.{ℕ, ◌+◌, ◌-◌, ◌≤◌}
use native.Mathlib.Omega.{arith}
use mathlib.Core.Path.{◌≡◌, refl, sym, ◌∙◌, ap}
use mathlib.Core.Bool.{Bool, true, false, cond}
use mathlib.Core.List.{List, ◌∷◌}
use lib.ListN.{drop, set}
use lib.Seq.{drop-drop}
use Rattle.numerals.specs.Number.{Number, Value, Wrong}
use Rattle.listing.specs.Next as next
use Rattle.listing.specs.declared.line.Expected.TheVariants as expected
use Rattle.listing.specs.Line.{end_of, first_of, rest_of, blank, given, next_place}
use Rattle.place_names.specs.Place.{place_of}
use Rattle.tokens.specs.Token.{words_of}
use Rattle.listing.proofs.Splitting.{words_none, words_one}
use Rattle.script.specs.Layout.{Layout}
use Rattle.script.specs.Step as step
use Rattle.script.specs.declared.mistake.Mistake.TheVariants.{Item, Beyond}
use Rattle.machine.specs.Place.{before, place}
use Rattle.meaning.specs.Map.{Map, mark}
use Rattle.place_marks.specs.Word.{map_in}
use Rattle.place_marks.proofs.Places.{place-word}
use Rattle.place_marks.proofs.Word.{mark-word}
use Rattle.script.specs.Item.{Buffers, buffers, outcome, is_place, unknown_at, unknown_outcome}

-- a word of the window by its place's number
pub window_unknown : (m : ℕ) (w : List ℕ) (p : ℕ) → before ≤ p → map_in m (set w (p - before) 0) ≡ mark (map_in m w) (place p) false
window_unknown m w p h =
    let e : before + (p - before) ≡ p = omega arith in
    mark-word m w (p - before) false ∙ ap (λ q. mark (map_in m w) q false) (sym (place-word (p - before)) ∙ ap place e)

pub one_unknown : (p : ℕ) (s w l : List ℕ) (μ μ' : Map) → μ' ≡ mark μ (place p) false → buffers s μ' w l ≡ unknown_at p (buffers s μ w l)
unfolding unknown_at
one_unknown p s w l μ μ' e = ap (λ (z : Map). buffers s z w l) e

-- what the next place says of a line
module _ (n : ℕ) (l : List ℕ) where
  pub next_end : next.End ≡ next_place n l → blank l ≡ true
  unfolding next_place
  next_end q = by (blank l) (place_of (first_of l)) q
    where
      by : (g : Bool) (r : Number) → next.End ≡ cond g next.End (given r (λ p. next.Place p (n + end_of l)) next.Mistake) → g ≡ true
      by true r q = refl
      by false (Value x) q = cc
      by false Wrong q = cc

  pub next_mistake : next.Mistake ≡ next_place n l → (blank l ≡ false) × (place_of (first_of l) ≡ Wrong)
  unfolding next_place
  next_mistake q = by (blank l) (place_of (first_of l)) q
    where
      by : (g : Bool) (r : Number) → next.Mistake ≡ cond g next.End (given r (λ p. next.Place p (n + end_of l)) next.Mistake) → (g ≡ false) × (r ≡ Wrong)
      by true r q = let z : ◌≡◌ {A = ℕ} 0 1 = cc in absurd (omega arith)
      by false (Value x) q = let z : ◌≡◌ {A = ℕ} 0 1 = cc in absurd (omega arith)
      by false Wrong q = (refl, refl)

  pub next_place_lem : (p k : ℕ) → next.Place p k ≡ next_place n l → (blank l ≡ false) × (place_of (first_of l) ≡ Value p) × (k ≡ n + end_of l)
  unfolding next_place
  next_place_lem p k q = by (blank l) (place_of (first_of l)) q
    where
      by : (g : Bool) (r : Number) → next.Place p k ≡ cond g next.End (given r (λ p. next.Place p (n + end_of l)) next.Mistake) → (g ≡ false) × (r ≡ Value p) × (k ≡ n + end_of l)
      by true r q = let z : ◌≡◌ {A = ℕ} 0 1 = cc in absurd (omega arith)
      by false (Value x) q = (refl, cc, cc)
      by false Wrong q = let z : ◌≡◌ {A = ℕ} 0 1 = cc in absurd (omega arith)

module _ (y : Layout) (b : Buffers) where
  module _ (t : List ℕ) (ts : List (List ℕ)) where
    word_wrong : place_of t ≡ Wrong → unknown_outcome (t ∷ ts) y b ≡ outcome (step.Wrong (Item expected.Place)) b
    unfolding unknown_outcome
    word_wrong e = rw e

    module _ (p : ℕ) (e : place_of t ≡ Value p) where
      word_beyond : is_place y.words p ≡ false → unknown_outcome (t ∷ ts) y b ≡ outcome (step.Wrong (Beyond y.words)) b
      unfolding unknown_outcome
      word_beyond h = rw (e, h)

      word_on : is_place y.words p ≡ true → unknown_outcome (t ∷ ts) y b ≡ unknown_outcome ts y (unknown_at p b)
      unfolding unknown_outcome
      word_on h = rw (e, h)

  -- the same of a line from n bytes on
  module _ (line : List ℕ) (n : ℕ) where
    abbrev from : List ℕ
    from = drop n line

    pub unknown_end : next.End ≡ next_place n from → outcome (step.On y) b ≡ unknown_outcome (words_of from) y b
    unfolding unknown_outcome
    unknown_end q = sym (ap (λ (ts : List (List ℕ)). unknown_outcome ts y b) (words_none from (next_end n from q)))

    pub unknown_mistake : next.Mistake ≡ next_place n from → outcome (step.Wrong (Item expected.Place)) b ≡ unknown_outcome (words_of from) y b
    unknown_mistake q =
        let e = next_mistake n from q in
        sym (ap (λ (ts : List (List ℕ)). unknown_outcome ts y b) (words_one from e.0) ∙ word_wrong (first_of from) (words_of (rest_of from)) e.1)

    module _ (p x k : ℕ) (i : p ≡ x) (q : next.Place x k ≡ next_place n from) where
      found : (blank from ≡ false) × (place_of (first_of from) ≡ Value p) × (k ≡ n + end_of from)
      found = next_place_lem n from p k (ap (λ (z : ℕ). next.Place z k) i ∙ q)

      pub unknown_beyond : is_place y.words p ≡ false → outcome (step.Wrong (Beyond y.words)) b ≡ unknown_outcome (words_of from) y b
      unknown_beyond h =
          sym (ap (λ (ts : List (List ℕ)). unknown_outcome ts y b) (words_one from found.0) ∙ word_beyond (first_of from) (words_of (rest_of from)) p found.1 h)

      pub unknown_on : is_place y.words p ≡ true → (b' : Buffers) → b' ≡ unknown_at p b → unknown_outcome (words_of (drop k line)) y b' ≡ unknown_outcome (words_of from) y b
      unknown_on h b' e =
          ap (unknown_outcome (words_of (drop k line)) y) e
          ∙ ap (λ (r : List ℕ). unknown_outcome (words_of r) y (unknown_at p b)) (ap (λ (j : ℕ). drop j line) found.2 ∙ sym (drop-drop (end_of from) n line))
          ∙ sym (ap (λ (ts : List (List ℕ)). unknown_outcome ts y b) (words_one from found.0) ∙ word_on (first_of from) (words_of (rest_of from)) p found.1 h)
