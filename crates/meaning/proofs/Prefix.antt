-- The prefix theorem: a watched run leaves what the plain run of the first words leaves, as many as it counted.
use Prim.Native.Nat.{ℕ, suc, ◌+◌, ◌≤◌}
use native.Mathlib.Omega.{arith}
use mathlib.Core.Path.{◌≡◌, refl, sym}
use mathlib.Core.List.{List, [], ◌∷◌}
use mathlib.Core.Bool.{Bool, true, false, cond}
use lib.ListN.{length, take}
use Rattle.machine.specs.Place.{State, get, number}
use Rattle.meaning.specs.Map.{Map, known}
use Rattle.meaning.specs.Step.{step}
use Rattle.meaning.specs.Stop.{hangs}
use Rattle.meaning.specs.Tree.{Tree, stop, go, branch, ask, Next, on, last, halt, Out, plain, Seen, seen, watched}
use Rattle.meaning.specs.Run.{advance, follow, run, Watched, follow_with, watch}

-- a watched word beside the plain one: a counted word leaves what the plain one leaves, and any other leaves all as it was
abbrev Beside : Next → State → Out → State → Type 0
Beside on x o st = (o.st ≡ x) × (o.next ≡ on)
Beside last x o st = (o.st ≡ x) × (o.next ≡ last)
Beside (halt s) x o st = x ≡ st

abbrev BesideWord : Seen → Out → State → Type 0
BesideWord w o st = Beside w.next w.st o st

tree_plain : (t : Tree) (μ : Map) (a : State) → BesideWord (watched t a μ) (plain t a) a
unfolding watched plain
tree_plain (stop s) μ a = refl
tree_plain (go x) μ a = (refl, refl)
tree_plain (branch x) μ a = (refl, refl)
tree_plain (ask p k) μ a = by (tree_plain (k (get a p)) μ a) (known μ p)
  where
    by : BesideWord (watched (k (get a p)) a μ) (plain (k (get a p)) a) a → (t : Bool)
        → BesideWord (cond t (watched (k (get a p)) a μ) (seen a μ (halt (hangs (number p))))) (plain (k (get a p)) a) a
    by ih true = ih
    by ih false = refl

-- the plain run of the first k words of ws, from any count, leaves x; k words were counted from n to c
record Prefix (M : ℕ → Tree) (ws : List ℕ) (st : State) (n : ℕ) (x : State) (c : ℕ) : Type 0 where
  k : ℕ
  counted : c ≡ n + k
  within : k ≤ length ws
  leaves : (m : ℕ) → (run M (take k ws) m st).st ≡ x

module _ (M : ℕ → Tree) where
  next_Prefix : (w : ℕ) (ws : List ℕ) (n : ℕ) (st x : State) (μ : Map) (nx : Next) (r : Watched) → Beside nx x (plain (M w) st) st
      → Prefix M ws (step advance x) (suc n) r.st r.count
      → Prefix M (w ∷ ws) st n (follow_with nx x μ n r).st (follow_with nx x μ n r).count
  unfolding follow_with run follow
  next_Prefix w ws n st x μ on r h p =
      record { k = suc p.k; counted = omega arith; within = omega arith; leaves = λ m. rw (h.1, h.0) (p.leaves (suc m)) }
  next_Prefix w ws n st x μ last r h p = record { k = 1; counted = omega arith; within = omega arith; leaves = λ m. rw (h.1, h.0) refl }
  next_Prefix w ws n st x μ (halt s) r h p = record { k = 0; counted = omega arith; within = omega arith; leaves = λ m. sym h }

  prefixed : (ws : List ℕ) (n : ℕ) (st : State) (μ : Map) → Prefix M ws st n (watch M ws n st μ).st (watch M ws n st μ).count
  unfolding watch run
  prefixed [] n st μ = record { k = 0; counted = omega arith; within = omega arith; leaves = λ m. refl }
  prefixed (w ∷ ws) n st μ =
      let o = watched (M w) st μ in
      next_Prefix w ws n st o.st o.map o.next (watch M ws (suc n) (step advance o.st) o.map) (tree_plain (M w) μ st)
      (prefixed ws (suc n) (step advance o.st) o.map)

  pub prefix : (ws : List ℕ) (st : State) (μ : Map) → (run M (take (watch M ws 0 st μ).count ws) 0 st).st ≡ (watch M ws 0 st μ).st
  prefix ws st μ =
      let p = prefixed ws 0 st μ in
      let e : (watch M ws 0 st μ).count ≡ p.k = omega arith in
      rw e (p.leaves 0)

  -- a run counts no more words than the list has
  pub count_within : (ws : List ℕ) (st : State) (μ : Map) → (watch M ws 0 st μ).count ≤ length ws
  count_within ws st μ = let p = prefixed ws 0 st μ in omega arith
