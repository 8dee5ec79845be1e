-- A watched run is monotone in its map, for any assignment of trees to words.
use Prim.Native.Nat.{ℕ, zero, suc, ◌+◌, ◌≤◌}
use native.Mathlib.Omega.{arith}
use mathlib.Core.Path.{◌≡◌, refl, ap, sym, ◌∙◌, subst}
use mathlib.Core.List.{List, [], ◌∷◌}
use mathlib.Core.Bool.{Bool, true, false, cond, ◌&&◌, false≢true}
use lib.ListN.{length, get_or, set, length-set, take}
use lib.Dec.{eqb}
use Rattle.bits.specs.Psr.{one_of}
use Rattle.machine.specs.Place.{Place, single, core, word, flags, control, exc, nzcv, exceptions, State, get, number}
use Rattle.meaning.specs.Map.{Map, known, mark}
use Rattle.meaning.specs.Step.{Step, Act, step, all_known, mark_all, step_marks, after_marks, act_marks}
use Rattle.meaning.specs.Stop.{hangs}
use Rattle.meaning.specs.Tree.{Tree, stop, go, branch, ask, Next, on, last, halt, Seen, seen, watched}
use Rattle.meaning.specs.Run.{advance, Watched, follow_with, watch}
use Rattle.meaning.specs.Monotone.{KnowsAll, SameSize, Monotone}

-- a map at least as knowing, of as many marks
record Above (μ ν : Map) : Type 0 where
  size : SameSize μ ν
  more : KnowsAll μ ν

module _ {M : Type 0} (κ : M → Bool) (d : M) where
  cell : (l m : List M) → length l ≡ length m → (i j : ℕ) (t u : M) → (κ t ≡ true → κ u ≡ true)
      → (κ (get_or l j d) ≡ true → κ (get_or m j d) ≡ true) → κ (get_or (set l i t) j d) ≡ true → κ (get_or (set m i u) j d) ≡ true
  cell [] [] p i j t u e a h = h
  cell [] (y ∷ m) p i j t u e a h = absurd (omega arith)
  cell (x ∷ l) [] p i j t u e a h = absurd (omega arith)
  cell (x ∷ l) (y ∷ m) p zero zero t u e a h = e h
  cell (x ∷ l) (y ∷ m) p zero (suc j) t u e a h = a h
  cell (x ∷ l) (y ∷ m) p (suc i) zero t u e a h = a h
  cell (x ∷ l) (y ∷ m) p (suc i) (suc j) t u e a h = cell l m (omega arith) i j t u e a h

one_of_lem : (t u : Bool) → (t ≡ true → u ≡ true) → eqb (one_of t) 1 ≡ true → eqb (one_of u) 1 ≡ true
one_of_lem true u e h = ap (λ (b : Bool). eqb (one_of b) 1) (e refl)
one_of_lem false u e h = absurd (false≢true h)

more_mark : (μ ν : Map) → Above μ ν → (p : Place) (t u : Bool) → (t ≡ true → u ≡ true) → (q : Place) → known (mark μ p t) q ≡ true → known (mark ν p u) q ≡ true
more_mark μ ν a (single i) t u e (single j) h = cell (λ b. b) false μ.marks.s ν.marks.s a.size.s i j t u e (a.more (single j)) h
more_mark μ ν a (single i) t u e (core j) h = a.more (core j) h
more_mark μ ν a (single i) t u e (word j) h = a.more (word j) h
more_mark μ ν a (single i) t u e flags h = a.more flags h
more_mark μ ν a (single i) t u e control h = a.more control h
more_mark μ ν a (single i) t u e exc h = a.more exc h
more_mark μ ν a (single i) t u e nzcv h = a.more nzcv h
more_mark μ ν a (single i) t u e exceptions h = a.more exceptions h
more_mark μ ν a (core i) t u e (single j) h = a.more (single j) h
more_mark μ ν a (core i) t u e (core j) h = cell (λ b. b) false μ.marks.r ν.marks.r a.size.r i j t u e (a.more (core j)) h
more_mark μ ν a (core i) t u e (word j) h = a.more (word j) h
more_mark μ ν a (core i) t u e flags h = a.more flags h
more_mark μ ν a (core i) t u e control h = a.more control h
more_mark μ ν a (core i) t u e exc h = a.more exc h
more_mark μ ν a (core i) t u e nzcv h = a.more nzcv h
more_mark μ ν a (core i) t u e exceptions h = a.more exceptions h
more_mark μ ν a (word i) t u e (single j) h = a.more (single j) h
more_mark μ ν a (word i) t u e (core j) h = a.more (core j) h
more_mark μ ν a (word i) t u e (word j) h = cell (λ x. eqb x 1) 1 μ.words ν.words a.size.words i j (one_of t) (one_of u) (one_of_lem t u e) (a.more (word j)) h
more_mark μ ν a (word i) t u e flags h = a.more flags h
more_mark μ ν a (word i) t u e control h = a.more control h
more_mark μ ν a (word i) t u e exc h = a.more exc h
more_mark μ ν a (word i) t u e nzcv h = a.more nzcv h
more_mark μ ν a (word i) t u e exceptions h = a.more exceptions h
more_mark μ ν a flags t u e (single j) h = a.more (single j) h
more_mark μ ν a flags t u e (core j) h = a.more (core j) h
more_mark μ ν a flags t u e (word j) h = a.more (word j) h
more_mark μ ν a flags t u e flags h = e h
more_mark μ ν a flags t u e control h = a.more control h
more_mark μ ν a flags t u e exc h = a.more exc h
more_mark μ ν a flags t u e nzcv h = a.more nzcv h
more_mark μ ν a flags t u e exceptions h = a.more exceptions h
more_mark μ ν a control t u e (single j) h = a.more (single j) h
more_mark μ ν a control t u e (core j) h = a.more (core j) h
more_mark μ ν a control t u e (word j) h = a.more (word j) h
more_mark μ ν a control t u e flags h = a.more flags h
more_mark μ ν a control t u e control h = e h
more_mark μ ν a control t u e exc h = a.more exc h
more_mark μ ν a control t u e nzcv h = a.more nzcv h
more_mark μ ν a control t u e exceptions h = a.more exceptions h
more_mark μ ν a exc t u e (single j) h = a.more (single j) h
more_mark μ ν a exc t u e (core j) h = a.more (core j) h
more_mark μ ν a exc t u e (word j) h = a.more (word j) h
more_mark μ ν a exc t u e flags h = a.more flags h
more_mark μ ν a exc t u e control h = a.more control h
more_mark μ ν a exc t u e exc h = e h
more_mark μ ν a exc t u e nzcv h = a.more nzcv h
more_mark μ ν a exc t u e exceptions h = a.more exceptions h
more_mark μ ν a nzcv t u e (single j) h = a.more (single j) h
more_mark μ ν a nzcv t u e (core j) h = a.more (core j) h
more_mark μ ν a nzcv t u e (word j) h = a.more (word j) h
more_mark μ ν a nzcv t u e flags h = a.more flags h
more_mark μ ν a nzcv t u e control h = a.more control h
more_mark μ ν a nzcv t u e exc h = a.more exc h
more_mark μ ν a nzcv t u e nzcv h = e h
more_mark μ ν a nzcv t u e exceptions h = a.more exceptions h
more_mark μ ν a exceptions t u e (single j) h = a.more (single j) h
more_mark μ ν a exceptions t u e (core j) h = a.more (core j) h
more_mark μ ν a exceptions t u e (word j) h = a.more (word j) h
more_mark μ ν a exceptions t u e flags h = a.more flags h
more_mark μ ν a exceptions t u e control h = a.more control h
more_mark μ ν a exceptions t u e exc h = a.more exc h
more_mark μ ν a exceptions t u e nzcv h = a.more nzcv h
more_mark μ ν a exceptions t u e exceptions h = e h

size_mark : (μ ν : Map) → SameSize μ ν → (p : Place) (t u : Bool) → SameSize (mark μ p t) (mark ν p u)
size_mark μ ν z (single i) t u = record { s = simp length-set z.s; r = z.r; words = z.words }
size_mark μ ν z (core i) t u = record { s = z.s; r = simp length-set z.r; words = z.words }
size_mark μ ν z (word i) t u = record { s = z.s; r = z.r; words = simp length-set z.words }
size_mark μ ν z flags t u = record { s = z.s; r = z.r; words = z.words }
size_mark μ ν z control t u = record { s = z.s; r = z.r; words = z.words }
size_mark μ ν z exc t u = record { s = z.s; r = z.r; words = z.words }
size_mark μ ν z nzcv t u = record { s = z.s; r = z.r; words = z.words }
size_mark μ ν z exceptions t u = record { s = z.s; r = z.r; words = z.words }

Above-mark : (μ ν : Map) → Above μ ν → (p : Place) (t u : Bool) → (t ≡ true → u ≡ true) → Above (mark μ p t) (mark ν p u)
Above-mark μ ν a p t u e = record { size = size_mark μ ν a.size p t u; more = more_mark μ ν a p t u e }

and_both : (x y x' y' : Bool) → (x ≡ true → x' ≡ true) → (y ≡ true → y' ≡ true) → (x && y) ≡ true → (x' && y') ≡ true
and_both true true x' y' f g h = let a = f refl in let b = g refl in rw (a, b) refl
and_both true false x' y' f g h = absurd (false≢true h)
and_both false y x' y' f g h = absurd (false≢true h)

all_more : (μ ν : Map) → KnowsAll μ ν → (ps : List Place) → all_known μ ps ≡ true → all_known ν ps ≡ true
all_more μ ν m [] h = refl
all_more μ ν m (p ∷ ps) h = and_both (all_known μ ps) (known μ p) (all_known ν ps) (known ν p) (all_more μ ν m ps) (m p) h

-- marks are read in α and β
module _ (α β : Map) (m : KnowsAll α β) where
  writes_Above : (ws : Step) (μ ν : Map) → Above μ ν → Above (mark_all α ws μ) (mark_all β ws ν)
  writes_Above [] μ ν a = a
  writes_Above (w ∷ ws) μ ν a =
      writes_Above ws _ _ (Above-mark μ ν a w.target (all_known α w.sources) (all_known β w.sources) (all_more α β m w.sources))

step_Above : (x : Step) (μ ν : Map) → Above μ ν → Above (step_marks x μ) (step_marks x ν)
step_Above x μ ν a = writes_Above μ ν a.more x μ ν a

after_Above : (n : ℕ) (each : ℕ → Step) (μ ν : Map) → Above μ ν → Above (after_marks n each μ) (after_marks n each ν)
unfolding after_marks
after_Above zero each μ ν a = a
after_Above (suc n) each μ ν a = step_Above (each n) _ _ (after_Above n each μ ν a)

act_Above : (x : Act) (μ ν : Map) → Above μ ν → Above (act_marks x μ) (act_marks x ν)
act_Above x μ ν a = step_Above x.tail _ _ (after_Above x.count x.each μ ν a)

-- a word that is not counted leaves the map
abbrev Unmoved : Next → Map → Map → Type 0
Unmoved on x μ = Unit {0}
Unmoved last x μ = Unit {0}
Unmoved (halt s) x μ = x ≡ μ

tree_Unmoved : (t : Tree) (st : State) (μ : Map) → Unmoved (watched t st μ).next (watched t st μ).map μ
unfolding watched
tree_Unmoved (stop s) st μ = refl
tree_Unmoved (go x) st μ = tt
tree_Unmoved (branch x) st μ = tt
tree_Unmoved (ask p k) st μ = by (tree_Unmoved (k (get st p)) st μ) (known μ p)
  where
    by : Unmoved (watched (k (get st p)) st μ).next (watched (k (get st p)) st μ).map μ → (b : Bool)
        → Unmoved (cond b (watched (k (get st p)) st μ) (seen st μ (halt (hangs (number p))))).next
        (cond b (watched (k (get st p)) st μ) (seen st μ (halt (hangs (number p))))).map μ
    by ih true = ih
    by ih false = refl

-- one word under the two maps: where the first goes on or branches, so does the second, from the same state with a map above
abbrev Over : Next → Seen → Seen → Type 0
Over on x y = (y.next ≡ on) × (y.st ≡ x.st) × Above x.map y.map
Over last x y = (y.next ≡ last) × (y.st ≡ x.st) × Above x.map y.map
Over (halt s) x y = Unit {0}

tree_Over : (t : Tree) (st : State) (μ ν : Map) → Above μ ν → Over (watched t st μ).next (watched t st μ) (watched t st ν)
unfolding watched
tree_Over (stop s) st μ ν a = tt
tree_Over (go x) st μ ν a = (refl, refl, act_Above x μ ν a)
tree_Over (branch x) st μ ν a = (refl, refl, act_Above x μ ν a)
tree_Over (ask p k) st μ ν a = by (tree_Over (k (get st p)) st μ ν a) (known μ p) refl
  where
    under : (b : Bool) → b ≡ true → (x y z : Seen) → Over x.next x y → Over x.next x (cond b y z)
    under true e x y z o = o
    under false e x y z o = absurd (false≢true e)

    by : Over (watched (k (get st p)) st μ).next (watched (k (get st p)) st μ) (watched (k (get st p)) st ν) → (b : Bool) → known μ p ≡ b
        → Over (cond b (watched (k (get st p)) st μ) (seen st μ (halt (hangs (number p))))).next
        (cond b (watched (k (get st p)) st μ) (seen st μ (halt (hangs (number p)))))
        (cond (known ν p) (watched (k (get st p)) st ν) (seen st ν (halt (hangs (number p)))))
    by ih true h = under (known ν p) (a.more p h) (watched (k (get st p)) st μ) (watched (k (get st p)) st ν) (seen st ν (halt (hangs (number p)))) ih
    by ih false h = tt

module _ (M : ℕ → Tree) where
  -- counted from n on
  count_from : (ws : List ℕ) (n : ℕ) (st : State) (μ : Map) → n ≤ (watch M ws n st μ).count
  unfolding watch follow_with
  count_from [] n st μ = omega arith
  count_from (w ∷ ws) n st μ = by (watched (M w) st μ).next (count_from ws (suc n) (step advance (watched (M w) st μ).st) (watched (M w) st μ).map)
    where
      by : (x : Next) → suc n ≤ (watch M ws (suc n) (step advance (watched (M w) st μ).st) (watched (M w) st μ).map).count
          → n ≤ (follow_with x (watched (M w) st μ).st (watched (M w) st μ).map n (watch M ws (suc n) (step advance (watched (M w) st μ).st) (watched (M w) st μ).map)).count
      by on h = omega arith
      by last h = omega arith
      by (halt s) h = omega arith

  -- x is what the first run leaves and y the second, n words having been counted; the second run of k words more counts them, and its map is above the first
  record Beside (ws : List ℕ) (n : ℕ) (st : State) (ν : Map) (x y : Watched) : Type 0 where
    k : ℕ
    counted : x.count ≡ n + k
    least : x.count ≤ y.count
    reached : (m : ℕ) → (watch M (take k ws) m st ν).count ≡ m + k
    above : (m : ℕ) → Above x.map (watch M (take k ws) m st ν).map

  abbrev more : List ℕ → ℕ → Seen → Watched
  more ws n o = watch M ws (suc n) (step advance o.st) o.map

  next_Beside : (w : ℕ) (ws : List ℕ) (n : ℕ) (st : State) (μ ν : Map) (x : Seen) (nx : Next) → Above μ ν → Over nx x (watched (M w) st ν) → Unmoved nx x.map μ
      → (Above x.map (watched (M w) st ν).map → (watched (M w) st ν).st ≡ x.st → Beside ws (suc n) (step advance x.st) (watched (M w) st ν).map (more ws n x) (more ws n (watched (M w) st ν)))
      → Beside (w ∷ ws) n st ν (follow_with nx x.st x.map n (more ws n x)) (watch M (w ∷ ws) n st ν)
  unfolding watch follow_with
  next_Beside w ws n st μ ν x on a o l ih =
      let b = ih o.2 o.1 in
      record {
        k = suc b.k;
        counted = omega (arith, b.counted);
        least = rw o.0 b.least;
        reached = λ m. let e : suc m + b.k ≡ m + suc b.k = omega arith in rw (o.0, o.1) (b.reached (suc m) ∙ e);
        above = λ m. rw (o.0, o.1) (b.above (suc m));
      }
  next_Beside w ws n st μ ν x last a o l ih =
      record { k = 1; counted = omega arith; least = rw o.0 (omega arith); reached = λ m. rw o.0 (omega arith); above = λ m. rw o.0 o.2 }
  next_Beside w ws n st μ ν x (halt s) a o l ih =
      record { k = 0; counted = omega arith; least = count_from (w ∷ ws) n st ν; reached = λ m. omega arith; above = λ m. subst (λ (z : Map). Above z ν) (sym l) a }

  beside : (ws : List ℕ) (n : ℕ) (st : State) (μ ν : Map) → Above μ ν → Beside ws n st ν (watch M ws n st μ) (watch M ws n st ν)
  unfolding watch
  beside [] n st μ ν a = record { k = 0; counted = omega arith; least = omega arith; reached = λ m. omega arith; above = λ m. a }
  beside (w ∷ ws) n st μ ν a =
      next_Beside w ws n st μ ν (watched (M w) st μ) (watched (M w) st μ).next a (tree_Over (M w) st μ ν a) (tree_Unmoved (M w) st μ)
      (λ b e. rw e (beside ws (suc n) (step advance (watched (M w) st μ).st) (watched (M w) st μ).map (watched (M w) st ν).map b))

  pub monotone : (ws : List ℕ) (st : State) (μ ν : Map) → SameSize μ ν → KnowsAll μ ν → Monotone M ws st μ ν
  monotone ws st μ ν z m =
      let b = beside ws 0 st μ ν (record { size = z; more = m }) in
      let e : (watch M ws 0 st μ).count ≡ b.k = omega (arith, b.counted) in
      record { count = b.least; reached = rw e (omega (arith, b.reached 0)); size = rw e (b.above 0).size; known = rw e (b.above 0).more }
