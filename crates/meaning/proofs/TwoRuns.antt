-- The two-run theorem: from two states that agree in every known place, the watched runs of one list are alike. M gives a word's tree;
-- nothing here is about one instruction set.
use Prim.Native.Nat.{ℕ, zero, suc}
use mathlib.Core.Path.{◌≡◌, refl, ap, subst}
use mathlib.Core.List.{List, [], ◌∷◌}
use mathlib.Core.Bool.{Bool, true, false, cond, ◌&&◌}
use lib.Seq.{set-get_or}
use Rattle.machine.specs.Place.{Place, State, get, put, number}
use Rattle.meaning.specs.Map.{Map, known, mark}
use Rattle.meaning.specs.Step.{Step, Act, gets, stored, put_all, step, after, act, all_known, mark_all, step_marks, after_marks, act_marks}
use Rattle.meaning.specs.Stop.{hangs}
use Rattle.meaning.specs.Tree.{Tree, stop, go, branch, ask, Next, on, last, halt, Seen, seen, watched}
use Rattle.meaning.specs.Run.{advance, Watched, follow_with, watch}
use Rattle.meaning.specs.Agree.{Fit, AgreeInPlaces, Alike}
use Rattle.meaning.proofs.Put.{agree_put, Fit-put}

-- two states that fit a map and agree where it says known
pub record Good (μ : Map) (a b : State) : Type 0 where
  pub fa : Fit μ a
  pub fb : Fit μ b
  pub ag : AgreeInPlaces μ a b

and_l : (x y : Bool) → (x && y) ≡ true → x ≡ true
and_l true y h = refl
and_l false y h = h

and_r : (x y : Bool) → (x && y) ≡ true → y ≡ true
and_r true y h = h
and_r false true h = refl
and_r false false h = h

gets_same : (μ : Map) (a b : State) → AgreeInPlaces μ a b → (ps : List Place) → all_known μ ps ≡ true → gets a ps ≡ gets b ps
gets_same μ a b ag [] h = refl
gets_same μ a b ag (p ∷ ps) h =
    let e : get a p ≡ get b p = ag p (and_r (all_known μ ps) (known μ p) h) in
    let f : gets a ps ≡ gets b ps = gets_same μ a b ag ps (and_l (all_known μ ps) (known μ p) h) in
    cc

-- the writes of a step: what is read comes from a₀ and b₀, which agree under ν
module _ (ν : Map) (a₀ b₀ : State) (ag : AgreeInPlaces ν a₀ b₀) where
  writes_Good : (ws : Step) (μ : Map) (a b : State) → Good μ a b → Good (mark_all ν ws μ) (put_all a₀ ws a) (put_all b₀ ws b)
  writes_Good [] μ a b g = g
  writes_Good (w ∷ ws) μ a b g =
      let t = all_known ν w.sources in
      let e : t ≡ true → stored a₀ w ≡ stored b₀ w = λ h. ap w.value (gets_same ν a₀ b₀ ag w.sources h) in
      writes_Good ws (mark μ w.target t) (put a w.target (stored a₀ w)) (put b w.target (stored b₀ w))
      (record {
        fa = Fit-put μ a g.fa w.target t (stored a₀ w);
        fb = Fit-put μ b g.fb w.target t (stored b₀ w);
        ag = agree_put μ a b g.fa g.fb g.ag w.target t (stored a₀ w) (stored b₀ w) e;
      })

step-Good : (x : Step) (μ : Map) (a b : State) → Good μ a b → Good (step_marks x μ) (step x a) (step x b)
step-Good x μ a b g = writes_Good μ a b g.ag x μ a b g

after-Good : (n : ℕ) (each : ℕ → Step) (μ : Map) (a b : State) → Good μ a b → Good (after_marks n each μ) (after n each a) (after n each b)
unfolding after after_marks
after-Good zero each μ a b g = g
after-Good (suc n) each μ a b g = step-Good (each n) (after_marks n each μ) (after n each a) (after n each b) (after-Good n each μ a b g)

act-Good : (x : Act) (μ : Map) (a b : State) → Good μ a b → Good (act_marks x μ) (act x a) (act x b)
act-Good x μ a b g = step-Good x.tail _ _ _ (after-Good x.count x.each μ a b g)

-- the growth of r15 changes no mark
pub advance_marks : (μ : Map) → step_marks advance μ ≡ μ
advance_marks μ = rw (set-get_or μ.marks.r 15 false)

advance-Good : (μ : Map) (a b : State) → Good μ a b → Good μ (step advance a) (step advance b)
advance-Good μ a b g = subst (λ (m : Map). Good m (step advance a) (step advance b)) (advance_marks μ) (step-Good advance μ a b g)

-- one word
record AlikeWord (x y : Seen) : Type 0 where
  next : x.next ≡ y.next
  map : x.map ≡ y.map
  good : Good x.map x.st y.st

tree_alike : (t : Tree) (μ : Map) (a b : State) → Good μ a b → AlikeWord (watched t a μ) (watched t b μ)
unfolding watched
tree_alike (stop s) μ a b g = record { next = refl; map = refl; good = g }
tree_alike (go x) μ a b g = record { next = refl; map = refl; good = act-Good x μ a b g }
tree_alike (branch x) μ a b g = record { next = refl; map = refl; good = act-Good x μ a b g }
tree_alike (ask p k) μ a b g = by (tree_alike (k (get a p)) μ a b g) (known μ p) refl
  where
    by : AlikeWord (watched (k (get a p)) a μ) (watched (k (get a p)) b μ) → (t : Bool) → known μ p ≡ t
        → AlikeWord (cond t (watched (k (get a p)) a μ) (seen a μ (halt (hangs (number p)))))
        (cond t (watched (k (get b p)) b μ) (seen b μ (halt (hangs (number p)))))
    by ih true h = subst (λ (v : ℕ). AlikeWord (watched (k (get a p)) a μ) (watched (k v) b μ)) (g.ag p h) ih
    by ih false h = record { next = refl; map = refl; good = g }

follow_Alike : (x : Next) (n : ℕ) (μ : Map) (a b : State) (r r' : Watched) → Good μ a b → Alike r r'
    → Alike (follow_with x a μ n r) (follow_with x b μ n r')
unfolding follow_with
follow_Alike on n μ a b r r' g h = h
follow_Alike last n μ a b r r' g h = record { count = refl; stop = refl; map = refl; agree = g.ag }
follow_Alike (halt s) n μ a b r r' g h = record { count = refl; stop = refl; map = refl; agree = g.ag }

module _ (M : ℕ → Tree) where
  -- what follows a word y of the second run, given its next and map
  abbrev more : List ℕ → ℕ → Seen → Next → Map → Watched
  more ws n y z m = follow_with z y.st m n (watch M ws (suc n) (step advance y.st) m)

  pub two_runs : (ws : List ℕ) (n : ℕ) (μ : Map) (a b : State) → Good μ a b → Alike (watch M ws n a μ) (watch M ws n b μ)
  unfolding watch
  two_runs [] n μ a b g = record { count = refl; stop = refl; map = refl; agree = g.ag }
  two_runs (w ∷ ws) n μ a b g =
      let x = watched (M w) a μ in
      let y = watched (M w) b μ in
      let o : AlikeWord x y = tree_alike (M w) μ a b g in
      subst (λ (m : Map). Alike (more ws n x x.next x.map) (more ws n y y.next m)) o.map
      (subst (λ (z : Next). Alike (more ws n x x.next x.map) (more ws n y z x.map)) o.next
      (follow_Alike x.next n x.map x.st y.st _ _ o.good
      (two_runs ws (suc n) x.map (step advance x.st) (step advance y.st) (advance-Good x.map x.st y.st o.good))))
