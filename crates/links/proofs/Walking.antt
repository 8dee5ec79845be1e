-- From one step back to what is left once the word was walked back.
use Prim.Native.Nat.{ℕ, ◌+◌}
use native.Mathlib.Omega.{arith}
use mathlib.Core.Path.{◌≡◌, refl, ap, sym, ◌∙◌}
use mathlib.Core.Bool.{false}
use mathlib.Core.List.{List, [], ◌∷◌}
use lib.ListN.{length}
use Rattle.machine.specs.Place.{place}
use Rattle.machine.proofs.Numbers.{number-place}
use Rattle.meaning.specs.Map.{Map, known}
use Rattle.meaning.specs.Step.{Act, act_marks}
use Rattle.chains.specs.Chain.{Pair, Way}
use Rattle.place_marks.specs.Word.{map_in}
use Rattle.sources.specs.declared.Source.{Source}
use Rattle.sources.specs.declared.Source.TheVariants.{Kept, From}
use Rattle.sources.specs.Source.{Led}
use Rattle.links.specs.declared.Back.{Back}
use Rattle.links.specs.Pairs.{with_pair, laid, back_of, linked_in}
use Rattle.links.specs.Walked.{WalkedIf}

-- a pair more, in front of others
pub laid_more : (l : List ℕ) (k i q : ℕ) (ps : List Pair) → with_pair (k + length ps) i q (laid l k ps) ≡ laid l k (record { index = i; place = place q } ∷ ps)
laid_more l k i q ps = ap (λ (n : ℕ). with_pair (k + length ps) i n (laid l k ps)) (sym (number-place q))

module _ (G : Map → Type 0) (a : Act) (i m q k : ℕ) (l : List ℕ) where
  -- nothing was done
  pub walked_none : ((w : List ℕ) → G (map_in m w) → known (act_marks a (map_in m w)) (place q) ≡ false → Way i a (map_in m w) (place q) [] (place q))
      → WalkedIf G a i m q k l l (record { place = q; pairs = k })
  walked_none f = record { pairs = []; list = refl; count = omega arith; few = omega arith; way = f }

  by_source : (s : Source) → ((w : List ℕ) → G (map_in m w) → known (act_marks a (map_in m w)) (place q) ≡ false → Led a (map_in m w) q s)
      → WalkedIf G a i m q k l (linked_in s i q k l) (back_of s q k)
  by_source Kept f = walked_none (λ w g u. f w g u i)
  by_source (From p) f =
      let e : k ≡ k + 0 = omega arith in
      record {
        pairs = record { index = i; place = place q } ∷ [];
        list = ap (λ (n : ℕ). with_pair n i q l) e ∙ laid_more l k i q [];
        count = omega arith;
        few = omega arith;
        way = λ w g u. f w g u i;
      }

  -- by a link
  pub walked_link : (s : Source) (l' : List ℕ) (y : Back) → (y ≡ back_of s q k) × (l' ≡ linked_in s i q k l)
      → ((w : List ℕ) → G (map_in m w) → known (act_marks a (map_in m w)) (place q) ≡ false → Led a (map_in m w) q s) → WalkedIf G a i m q k l l' y
  walked_link s l' y e f = rw (e.0, e.1) (by_source s f)
