-- The chains of a watched run: there is one for every unknown place, its indices never fall, and it is not too long. For any trees.
use Prim.Native.Nat.{ℕ, zero, suc, ◌+◌, ◌*◌, ◌≤◌, ◌<◌}
use native.Mathlib.Omega.{arith}
use native.Mathlib.Nat.{mul-suc}
use mathlib.Core.Path.{◌≡◌, refl, ap, sym, ◌∙◌, subst}
use mathlib.Core.List.{List, [], ◌∷◌}
use mathlib.Core.Bool.{Bool, true, false, cond}
use lib.ListN.{length, length-append}
use Rattle.machine.specs.Place.{Place, State, get, number}
use Rattle.meaning.specs.Map.{Map, known}
use Rattle.meaning.specs.Step.{Step, Act, step}
use Rattle.meaning.specs.Stop.{hangs}
use Rattle.meaning.specs.Tree.{Tree, stop, go, branch, ask, Next, on, last, halt, seen, watched}
use Rattle.meaning.specs.Run.{advance, Watched, follow_with, watch}
use Rattle.chains.specs.Steps.{Event, family, steps_of, word_steps, events_at, going_on, run_steps, marks_after}
use Rattle.chains.specs.Chain.{Pair, Through, ends, keeps, links}
use Rattle.chains.specs.Origin.{ReadsPresent, EveryAct, Sound, Within, Rising, Existence, Bound, Order, Unknown}
use Rattle.chains.proofs.Ways.{part_at, links_within, ends_unknown, AllPresent, found, act_marks_lem}

-- ---- the map after the steps of a run is the run's

word_marks : (i : ℕ) (t : Tree) (st : State) (μ : Map) (es : List Event) → marks_after (events_at i (word_steps t st μ) es) μ ≡ marks_after es (watched t st μ).map
unfolding word_steps watched
word_marks i (stop s) st μ es = refl
word_marks i (go a) st μ es = act_marks_lem i a es μ
word_marks i (branch a) st μ es = act_marks_lem i a es μ
word_marks i (ask p k) st μ es = by (word_marks i (k (get st p)) st μ es) (known μ p)
  where
    by : marks_after (events_at i (word_steps (k (get st p)) st μ) es) μ ≡ marks_after es (watched (k (get st p)) st μ).map → (b : Bool)
        → marks_after (events_at i (cond b (word_steps (k (get st p)) st μ) []) es) μ
        ≡ marks_after es (cond b (watched (k (get st p)) st μ) (seen st μ (halt (hangs (number p))))).map
    by ih true = ih
    by ih false = refl

module _ (M : ℕ → Tree) where
  pub run_marks : (ws : List ℕ) (i : ℕ) (st : State) (μ : Map) → marks_after (run_steps M ws i st μ) μ ≡ (watch M ws i st μ).map
  unfolding run_steps watch marks_after follow_with
  run_marks [] i st μ = refl
  run_marks (w ∷ ws) i st μ =
      let o = watched (M w) st μ in
      word_marks i (M w) st μ (going_on o.next (run_steps M ws (suc i) (step advance o.st) o.map))
      ∙ by o.next o.st o.map (run_marks ws (suc i) (step advance o.st) o.map)
    where
      by : (x : Next) (a : State) (ν : Map) → marks_after (run_steps M ws (suc i) (step advance a) ν) ν ≡ (watch M ws (suc i) (step advance a) ν).map
          → marks_after (going_on x (run_steps M ws (suc i) (step advance a) ν)) ν ≡ (follow_with x a ν i (watch M ws (suc i) (step advance a) ν)).map
      by on a ν e = e
      by last a ν e = refl
      by (halt s) a ν e = refl

-- ---- what the steps of a run are, from what the steps of its words' acts are

family_present : (i n : ℕ) (each : ℕ → Step) → ((j : ℕ) → ReadsPresent (each j)) → (more : List Step) (es : List Event) → AllPresent (events_at i more es)
    → AllPresent (events_at i (family n each more) es)
unfolding family
family_present i zero each h more es s = s
family_present i (suc n) each h more es s = family_present i n each h (each n ∷ more) es (h n, s)

act_present : (i : ℕ) (a : Act) → Sound a → (es : List Event) → AllPresent es → AllPresent (events_at i (steps_of a) es)
act_present i a h es s = family_present i a.count a.each h.each (a.tail ∷ []) es (h.tail, s)

word_present : (i : ℕ) (t : Tree) → EveryAct Sound t → (st : State) (μ : Map) (es : List Event) → AllPresent es → AllPresent (events_at i (word_steps t st μ) es)
unfolding word_steps
word_present i (stop x) h st μ es s = s
word_present i (go a) h st μ es s = act_present i a h es s
word_present i (branch a) h st μ es s = act_present i a h es s
word_present i (ask p k) h st μ es s = by (word_present i (k (get st p)) (h (get st p)) st μ es s) (known μ p)
  where
    by : AllPresent (events_at i (word_steps (k (get st p)) st μ) es) → (b : Bool) → AllPresent (events_at i (cond b (word_steps (k (get st p)) st μ) []) es)
    by ih true = ih
    by ih false = s

-- a word that is not counted makes no step
abbrev Idle : Next → List Step → Type 0
Idle on xs = Unit {0}
Idle last xs = Unit {0}
Idle (halt s) xs = xs ≡ []

word_Idle : (t : Tree) (st : State) (μ : Map) → Idle (watched t st μ).next (word_steps t st μ)
unfolding word_steps watched
word_Idle (stop s) st μ = refl
word_Idle (go a) st μ = tt
word_Idle (branch a) st μ = tt
word_Idle (ask p k) st μ = by (word_Idle (k (get st p)) st μ) (known μ p)
  where
    by : Idle (watched (k (get st p)) st μ).next (word_steps (k (get st p)) st μ) → (b : Bool)
        → Idle (cond b (watched (k (get st p)) st μ) (seen st μ (halt (hangs (number p))))).next (cond b (word_steps (k (get st p)) st μ) [])
    by ih true = ih
    by ih false = refl

-- no way through a word has more links than through its act
word_Within : (n i : ℕ) (t : Tree) → EveryAct (Within n) t → (st : State) (μ : Map) (p q : Place) (ps : List Pair)
    → Through (events_at i (word_steps t st μ) []) μ p ps q → length ps ≤ n
unfolding word_steps
word_Within n i (stop s) h st μ p q ps c = let z = links_within c in omega arith
word_Within n i (go a) h st μ p q ps c = h i μ p q ps c
word_Within n i (branch a) h st μ p q ps c = h i μ p q ps c
word_Within n i (ask r k) h st μ p q ps c = by (word_Within n i (k (get st r)) (h (get st r)) st μ p q ps) (known μ r) c
  where
    by : (Through (events_at i (word_steps (k (get st r)) st μ) []) μ p ps q → length ps ≤ n) → (b : Bool)
        → Through (events_at i (cond b (word_steps (k (get st r)) st μ) []) []) μ p ps q → length ps ≤ n
    by ih true d = ih d
    by ih false d = let z = links_within d in omega arith

-- steps whose indices never fall, from n on, and are below c
abbrev Ordered : ℕ → ℕ → List Event → Type 0
Ordered n c [] = Unit {0}
Ordered n c (e ∷ es) = (n ≤ e.index) × (e.index < c) × Ordered e.index c es

Ordered-from : (m n c : ℕ) → m ≤ n → (es : List Event) → Ordered n c es → Ordered m c es
Ordered-from m n c h [] o = tt
Ordered-from m n c h (e ∷ es) o = let z = o.0 in (omega arith, o.1, o.2)

Rising-from : (m n c : ℕ) → m ≤ n → (ps : List Pair) → Rising n c ps → Rising m c ps
Rising-from m n c h [] o = tt
Rising-from m n c h (x ∷ ps) o = let z = o.0 in (omega arith, o.1, o.2)

rising : {es : List Event} {μ : Map} {p q : Place} {ps : List Pair} → Through es μ p ps q → (n c : ℕ) → Ordered n c es → Rising n c ps
rising ends n c o = tt
rising (keeps {e = e} {ps = ps} x d) n c o = Rising-from n e.index c o.0 ps (rising d e.index c o.2)
rising (links {e = e} a u d) n c o = (o.0, o.1, rising d e.index c o.2)

Ordered-at : (i c : ℕ) → i < c → (xs : List Step) (es : List Event) → Ordered i c es → Ordered i c (events_at i xs es)
Ordered-at i c h [] es o = o
Ordered-at i c h (x ∷ xs) es o = (omega arith, h, Ordered-at i c h xs es o)

module _ (M : ℕ → Tree) where
  run_present : ((w : ℕ) → EveryAct Sound (M w)) → (ws : List ℕ) (i : ℕ) (st : State) (μ : Map) → AllPresent (run_steps M ws i st μ)
  unfolding run_steps
  run_present h [] i st μ = tt
  run_present h (w ∷ ws) i st μ =
      let o = watched (M w) st μ in
      word_present i (M w) (h w) st μ (going_on o.next (run_steps M ws (suc i) (step advance o.st) o.map))
      (by o.next (run_steps M ws (suc i) (step advance o.st) o.map) (run_present h ws (suc i) (step advance o.st) o.map))
    where
      by : (x : Next) (es : List Event) → AllPresent es → AllPresent (going_on x es)
      by on es s = s
      by last es s = tt
      by (halt z) es s = tt

  -- the steps of a run, and how many words it counts
  record Steps (i : ℕ) (es : List Event) (c : ℕ) : Type 0 where
    counted : i ≤ c
    ordered : Ordered i c es

  next_Steps : (i : ℕ) (x : Next) (a : State) (ν : Map) (r : Watched) (xs : List Step) (es : List Event) → Idle x xs → Steps (suc i) es r.count
      → Steps i (events_at i xs (going_on x es)) (follow_with x a ν i r).count
  unfolding follow_with
  next_Steps i on a ν r xs es z s =
      let c = s.counted in
      record { counted = omega arith; ordered = Ordered-at i r.count (omega arith) xs es (Ordered-from i (suc i) r.count (omega arith) es s.ordered) }
  next_Steps i last a ν r xs es z s = record { counted = omega arith; ordered = Ordered-at i (suc i) (omega arith) xs [] tt }
  next_Steps i (halt y) a ν r xs es z s = record { counted = omega arith; ordered = rw z tt }

  run_ordered : (ws : List ℕ) (i : ℕ) (st : State) (μ : Map) → Steps i (run_steps M ws i st μ) (watch M ws i st μ).count
  unfolding run_steps watch
  run_ordered [] i st μ = record { counted = omega arith; ordered = tt }
  run_ordered (w ∷ ws) i st μ =
      let o = watched (M w) st μ in
      next_Steps i o.next o.st o.map (watch M ws (suc i) (step advance o.st) o.map) (word_steps (M w) st μ)
      (run_steps M ws (suc i) (step advance o.st) o.map) (word_Idle (M w) st μ) (run_ordered ws (suc i) (step advance o.st) o.map)

  -- so many links for each word
  module _ (n : ℕ) (h : (w : ℕ) → EveryAct (Within n) (M w)) where
    abbrev Few : ℕ → List Event → Map → ℕ → Type 0
    Few i es μ c = (p q : Place) (ps : List Pair) → Through es μ p ps q → n * i + length ps ≤ n * c

    next_Few : (i : ℕ) (x : Next) (a : State) (μ ν : Map) (r : Watched) (xs : List Step) (es : List Event) → Idle x xs
        → ((p q : Place) (ps : List Pair) → Through (events_at i xs []) μ p ps q → length ps ≤ n) → Few (suc i) es (marks_after (events_at i xs []) μ) r.count
        → Few i (events_at i xs (going_on x es)) μ (follow_with x a ν i r).count
    unfolding follow_with
    next_Few i on a μ ν r xs es z w f p q ps d =
        let b = part_at i xs es d in
        let u = w p b.middle b.front b.through in
        let v = f b.middle q b.rear b.onward in
        let e = ap length b.whole ∙ length-append b.front b.rear in
        let m = mul-suc n i in
        omega arith
    next_Few i last a μ ν r xs es z w f p q ps d =
        let u = w p q ps d in
        let m = mul-suc n i in
        omega arith
    next_Few i (halt y) a μ ν r xs es z w f p q ps d =
        let u = links_within (subst (λ (l : List Step). Through (events_at i l []) μ p ps q) z d) in
        omega arith

    run_Few : (ws : List ℕ) (i : ℕ) (st : State) (μ : Map) → Few i (run_steps M ws i st μ) μ (watch M ws i st μ).count
    unfolding run_steps watch marks_after
    run_Few [] i st μ = λ p q ps d. let u = links_within d in omega arith
    run_Few (w ∷ ws) i st μ =
        let o = watched (M w) st μ in
        next_Few i o.next o.st μ o.map (watch M ws (suc i) (step advance o.st) o.map) (word_steps (M w) st μ)
        (run_steps M ws (suc i) (step advance o.st) o.map) (word_Idle (M w) st μ) (word_Within n i (M w) (h w) st μ)
        (subst (λ (ν : Map). Few (suc i) (run_steps M ws (suc i) (step advance o.st) o.map) ν (watch M ws (suc i) (step advance o.st) o.map).count)
        (sym (word_marks i (M w) st μ [])) (run_Few ws (suc i) (step advance o.st) o.map))

-- ---- the theorems

pub existence : Existence
existence M h ws st μ m q y u =
    let f = found (run_steps M ws 0 st μ) (run_present M h ws 0 st μ) μ m q y (ap (λ (ν : Map). known ν q) (run_marks M ws 0 st μ) ∙ u) in
    record { first = f.first; pairs = f.pairs; chain = record { unknown = f.unknown; through = f.through } }

pub unknown_end : Unknown
unknown_end M ws st μ first q ps c = ap (λ (ν : Map). known ν q) (sym (run_marks M ws 0 st μ)) ∙ ends_unknown c.through c.unknown

pub order : Order
order M ws st μ first q ps c = rising c.through 0 (watch M ws 0 st μ).count (run_ordered M ws 0 st μ).ordered

pub bound : Bound
bound M n h ws st μ first q ps c = let u = run_Few M n h ws 0 st μ first q ps c.through in omega arith
