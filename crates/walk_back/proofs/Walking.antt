-- Back through the words of a run: the chain so far, and its pairs in the list.
use Prim.Native.Nat.{ℕ, suc, ◌+◌, ◌-◌, ◌*◌, ◌≤◌, ◌<◌}
use native.Mathlib.Omega.{arith}
use mathlib.Core.Path.{◌≡◌, refl, ap, sym, ◌∙◌, subst}
use mathlib.Core.Bool.{Bool, true, false, not}
use mathlib.Core.List.{List, [], ◌∷◌, ◌++◌}
use lib.ListN.{length, get_or, length-append}
use Rattle.bits.specs.Field.{field}
use Rattle.bits.specs.Psr.{holds}
use Rattle.machine.specs.Place.{State, place}
use Rattle.meaning.specs.Map.{Map, known}
use Rattle.meaning.specs.Step.{Act, act_marks}
use Rattle.meaning.specs.Tree.{watched}
use Rattle.meaning.specs.Run.{watch}
use Rattle.place_marks.specs.Word.{map_in}
use Rattle.word_class.specs.Word.{class_tree, meaning}
use Rattle.chains.specs.Steps.{act_of}
use Rattle.chains.specs.Chain.{Pair, Way}
use Rattle.chains.proofs.Laws.{nothing-Way, nothing_marks}
use Rattle.links.specs.declared.Back.{Back}
use Rattle.links.specs.Pairs.{laid, Turned}
use Rattle.links.specs.Walked.{Walked}
use Rattle.links.proofs.Laid as Laid
use Rattle.links.proofs.Walking.{walked_none}
use Rattle.reached.specs.Point.{Point, point_at, seen_at, act_at, Goes, Ran}
use Rattle.reached.proofs.Reached.{Backed, Backed-end, Backed-word, Backed-start, Counted-marks}
use Rattle.word_sources.proofs.Counted.{counted_holds, counted_fails}
use Rattle.word_sources.specs.Value.{value_of}
use Rattle.run_log.specs.Log.{Logged}
use Rattle.walk_back.specs.Counted.{WalkedCounted}
use Rattle.walk_back.specs.Given.{Given}

-- ---- one word

module _ (base op : ℕ) (st : State) (i m q k : ℕ) (l : List ℕ) where
  abbrev act : Act
  act = act_of (meaning base op) st

  pub skipped : holds (field op 28 31) st.machine.cpsr ≡ false → WalkedCounted (meaning base op) st i m q k l l (record { place = q; pairs = k })
  skipped e = walked_none (λ μ. Goes (watched (meaning base op) st μ).next) act i m q k l way
    where
      way : (w : List ℕ) → Goes (watched (meaning base op) st (map_in m w)).next → known (act_marks act (map_in m w)) (place q) ≡ false → Way i act (map_in m w) (place q) [] (place q)
      way w g u =
          let z = counted_fails base op st (map_in m w) g e in
          let v = ap (λ (μ : Map). known μ (place q)) (sym (nothing_marks (map_in m w))) ∙ ap (λ (a : Act). known (act_marks a (map_in m w)) (place q)) (sym z) ∙ u in
          subst (λ (a : Act). Way i a (map_in m w) (place q) [] (place q)) (sym z) (nothing-Way i (map_in m w) (place q) v)

  pub executed : holds (field op 28 31) st.machine.cpsr ≡ true → (l' : List ℕ) (y : Back) → Walked (class_tree base op) st i m q k l l' y
      → WalkedCounted (meaning base op) st i m q k l l' y
  executed e l' y r =
      record {
        pairs = r.pairs;
        list = r.list;
        count = r.count;
        few = r.few;
        way = λ w g u.
            let d = counted_holds base op st (map_in m w) g e in
            subst (λ (a : Act). Way i a (map_in m w) (place y.place) r.pairs (place q)) (sym d.act)
            (r.way w d.clears (subst (λ (a : Act). known (act_marks a (map_in m w)) (place q) ≡ false) d.act u));
      }

-- ---- pairs after pairs

laid_after : (l : List ℕ) (ps ls : List Pair) → laid (laid l 0 ps) (length ps) ls ≡ laid l 0 (ls ++ ps)
laid_after l ps [] = refl
laid_after l ps (x ∷ ls) =
    let e : length ps + length ls ≡ 0 + length (ls ++ ps) = omega (arith, length-append ls ps) in
    rw (laid_after l ps ls, e) refl

-- ---- all words

module _ (base : ℕ) (list : List ℕ) (st : State) (μ : Map) (q : ℕ) (l₀ : List ℕ) where
  abbrev P : ℕ → Point
  P = point_at (meaning base) list st μ

  -- down to word j, at place p, with k pairs in the list l
  pub record Walking (j p k : ℕ) (l : List ℕ) : Type 0 where
    pub pairs : List Pair
    pub backed : Backed (meaning base) list st μ j (place p) pairs (place q)
    pub inlist : l ≡ laid l₀ 0 pairs
    pub size : k ≡ length pairs

  pub Walking-end : (count : ℕ) → Ran (meaning base) list st μ count → known (watch (meaning base) list 0 st μ).map (place q) ≡ false → Walking count q 0 l₀
  Walking-end count r u = record { pairs = []; backed = Backed-end (meaning base) list st μ (place q) count r u; inlist = refl; size = refl }

  module _ (count : ℕ) (ms vs : List ℕ) (ss : List Bool) (g : Logged base list st μ count ms vs ss) (room : length list ≤ length ms) where
    pub Walking-word : (j p k : ℕ) (l l' : List ℕ) (y : Back) → j < count → Walking (suc j) p k l
        → WalkedCounted (meaning base (get_or list j 0)) (P j).st j (get_or ms j 0) p k l l' y → Walking j y.place y.pairs l'
    Walking-word j p k l l' y h b w =
        record {
          pairs = w.pairs ++ b.pairs;
          backed = Backed-word (meaning base) list st μ (place q) j (place p) (place y.place) w.pairs b.pairs c b.backed way;
          inlist = w.list ∙ ap (λ (n : ℕ). laid l n w.pairs) b.size ∙ ap (λ (x : List ℕ). laid x (length b.pairs) w.pairs) b.inlist ∙ laid_after l₀ b.pairs w.pairs;
          size = omega (arith, w.count, b.size, length-append w.pairs b.pairs);
        }
      where
        c : Goes (seen_at (meaning base) list st μ j).next
        c = g.ran.counted j h

        m : (P j).map ≡ map_in (get_or ms j 0) (P j).map.words
        m = (g.log room).marks j h

        unknown : known (act_marks (act_at (meaning base) list st μ j) (P j).map) (place p) ≡ false
        unknown = ap (λ (ν : Map). known ν (place p)) (sym (Counted-marks (meaning base) list st μ j c)) ∙ b.backed.unknown

        way : Way j (act_at (meaning base) list st μ j) (P j).map (place y.place) w.pairs (place p)
        way =
            subst (λ (ν : Map). Way j (act_at (meaning base) list st μ j) ν (place y.place) w.pairs (place p)) (sym m)
            (w.way (P j).map.words (subst (λ (ν : Map). Goes (watched (meaning base (get_or list j 0)) (P j).st ν).next) m c)
            (subst (λ (ν : Map). known (act_marks (act_at (meaning base) list st μ j) ν) (place p) ≡ false) m unknown))

    -- the word before, by what is logged of it
    pub Walking-again : (j p k : ℕ) (l l' : List ℕ) (y : Back) → 0 < j → j ≤ count → Walking j p k l
        → ((x : State) → get_or vs (j - 1) 0 ≡ value_of (get_or list (j - 1) 0) x → get_or ss (j - 1) false ≡ not (holds (field (get_or list (j - 1) 0) 28 31) x.machine.cpsr)
        → WalkedCounted (meaning base (get_or list (j - 1) 0)) x (j - 1) (get_or ms (j - 1) 0) p k l l' y)
        → Walking (j - 1) y.place y.pairs l'
    Walking-again j p k l l' y h n b f =
        let e : suc (j - 1) ≡ j = omega arith in
        let m : j - 1 < count = omega arith in
        Walking-word (j - 1) p k l l' y m (subst (λ (i : ℕ). Walking i p k l) (sym e) b) (f (P (j - 1)).st ((g.log room).value (j - 1) m) ((g.log room).skip (j - 1) m))

  -- and turned round
  pub Walking-start : (count j p k : ℕ) (l l' : List ℕ) → k ≤ 8 * count → 16 * count ≤ length l₀ → j ≤ 0 → Walking j p k l → Turned k l l'
      → Given base list st μ q count l₀ l' p k
  Walking-start count j p k l l' few room z b r =
      record {
        pairs = b.pairs;
        chain = Backed-start (meaning base) list st μ (place q) (place p) b.pairs (subst (λ (i : ℕ). Backed (meaning base) list st μ i (place p) b.pairs (place q)) none b.backed);
        size = b.size;
        few = few;
        laid = rw b.size (Laid.turned l₀ l' b.pairs (omega (arith, b.size)) turned);
      }
    where
      none : j ≡ 0
      none = omega arith

      turned : Turned (length b.pairs) (laid l₀ 0 b.pairs) l'
      turned = subst (λ (n : ℕ). Turned n (laid l₀ 0 b.pairs) l') b.size (subst (λ (x : List ℕ). Turned k x l') b.inlist r)
