-- The laws by which the code's proofs follow a watched run forward, word by word, and walk it back.
use Prim.Native.Nat.{ℕ, zero, suc, ◌≤◌, ◌<◌}
use native.Mathlib.Omega.{arith}
use native.Mathlib.Decide.{ℕ_discrete}
use mathlib.Core.Path.{◌≡◌, refl, ap, sym, ◌∙◌, subst}
use mathlib.Core.Logic.{inl, inr}
use mathlib.Core.List.{List, [], ◌++◌}
use mathlib.Core.Bool.{Bool, true, false, cond}
use lib.ListN.{length, get_or, drop, drop_of_length-le}
use lib.Seq.{drop-cons}
use Rattle.machine.specs.Place.{Place, State, get, number}
use Rattle.meaning.specs.Map.{Map, known}
use Rattle.meaning.specs.Step.{Act, Step, act_marks}
use Rattle.meaning.specs.Stop.{Stop, hangs}
use Rattle.meaning.specs.Tree.{Tree, stop, go, branch, ask, Next, on, last, halt, Seen, seen, watched}
use Rattle.meaning.specs.Run.{watch}
use Rattle.chains.specs.Steps.{Event, steps_of, word_steps, events_at, going_on, run_steps, marks_after}
use Rattle.chains.specs.Chain.{Pair, Through, ends, Way, Chain}
use Rattle.reached.specs.Point.{Point, point_at, seen_at, act_at, CountedAt, logged, Ran}
use Rattle.chains.proofs.Ways.{join_at, act_marks_lem}
use Rattle.chains.proofs.Runs.{run_marks}
use Rattle.chains.proofs.Laws.{acts_on, acts_last}

-- a word that is not counted makes no step
abbrev Idle : Next → List Step → Type 0
Idle on xs = Unit {0}
Idle last xs = Unit {0}
Idle (halt s) xs = xs ≡ []

word_Idle : (t : Tree) (st : State) (μ : Map) → Idle (watched t st μ).next (word_steps t st μ)
unfolding word_steps watched
word_Idle (stop s) st μ = refl
word_Idle (go a) st μ = tt
word_Idle (branch a) st μ = tt
word_Idle (ask p k) st μ = by (word_Idle (k (get st p)) st μ) (known μ p)
  where
    by : Idle (watched (k (get st p)) st μ).next (word_steps (k (get st p)) st μ) → (b : Bool)
        → Idle (cond b (watched (k (get st p)) st μ) (seen st μ (halt (hangs (number p))))).next (cond b (word_steps (k (get st p)) st μ) [])
    by ih true = ih
    by ih false = refl

module _ (M : ℕ → Tree) (ws : List ℕ) (st : State) (μ : Map) where
  abbrev P : ℕ → Point
  P = point_at M ws st μ

  abbrev does : ℕ → Seen
  does = seen_at M ws st μ

  abbrev act : ℕ → Act
  act = act_at M ws st μ

  abbrev Counted : ℕ → Type 0
  Counted = CountedAt M ws st μ

  abbrev Log : ℕ → List Event → List Event
  Log = logged M ws st μ

  -- j words were run and counted: the steps of the run are theirs and those of the run of the others
  pub record Reached (j : ℕ) : Type 0 where
    pub steps : run_steps M ws 0 st μ ≡ Log j (run_steps M (drop j ws) j (P j).st (P j).map)
    pub counted : (i : ℕ) → i < j → Counted i

  pub Reached-none : Reached 0
  unfolding logged point_at
  Reached-none = record { steps = refl; counted = λ i l. absurd (omega arith) }

  pub Reached-end : (j : ℕ) → length ws ≤ j → Reached j → Ran M ws st μ j
  unfolding run_steps
  Reached-end j h r = record { steps = r.steps ∙ ap (λ (l : List ℕ). Log j (run_steps M l j (P j).st (P j).map)) (drop_of_length-le ws h); counted = r.counted }

  -- one word
  next_steps : (j : ℕ) → j < length ws
      → run_steps M (drop j ws) j (P j).st (P j).map
      ≡ events_at j (word_steps (M (get_or ws j 0)) (P j).st (P j).map) (going_on (does j).next (run_steps M (drop (suc j) ws) (suc j) (P (suc j)).st (P (suc j)).map))
  unfolding run_steps point_at
  next_steps j h = rw (drop-cons ws j 0)

  more : (j : ℕ) → ((i : ℕ) → i < j → Counted i) → Counted j → (i : ℕ) → i < suc j → Counted i
  more j f c i l = by (ℕ_discrete i j)
    where
      by : Dec (i ≡ j) → Counted i
      by (yes e) = subst Counted (sym e) c
      by (no n) = f i (omega (arith, n))

  -- the map after a counted word is that of its act
  pub Counted-marks : (j : ℕ) → Counted j → (P (suc j)).map ≡ act_marks (act j) (P j).map
  unfolding point_at
  Counted-marks j (inl e) = (acts_on (M (get_or ws j 0)) (P j).st (P j).map e).1
  Counted-marks j (inr e) = (acts_last (M (get_or ws j 0)) (P j).st (P j).map e).1

  pub Reached-on : (j : ℕ) → j < length ws → (does j).next ≡ on → Reached j → Reached (suc j)
  unfolding logged
  Reached-on j h e r =
      let a = acts_on (M (get_or ws j 0)) (P j).st (P j).map e in
      record {
        steps = r.steps ∙ ap (Log j) (next_steps j h ∙ rw (e, a.0) refl);
        counted = more j r.counted (inl e);
      }

  pub Reached-last : (j : ℕ) → j < length ws → (does j).next ≡ last → Reached j → Ran M ws st μ (suc j)
  unfolding logged
  Reached-last j h e r =
      let a = acts_last (M (get_or ws j 0)) (P j).st (P j).map e in
      record {
        steps = r.steps ∙ ap (Log j) (next_steps j h ∙ rw (e, a.0) refl);
        counted = more j r.counted (inr e);
      }

  pub Reached-halt : (j : ℕ) (s : Stop) → j < length ws → (does j).next ≡ halt s → Reached j → Ran M ws st μ j
  Reached-halt j s h e r =
      let z = subst (λ (x : Next). Idle x (word_steps (M (get_or ws j 0)) (P j).st (P j).map)) e (word_Idle (M (get_or ws j 0)) (P j).st (P j).map) in
      record { steps = r.steps ∙ ap (Log j) (next_steps j h ∙ rw (e, z) refl); counted = r.counted }

  -- ---- the map after the words that were counted

  logged_marks : (j : ℕ) → ((i : ℕ) → i < j → Counted i) → (es : List Event) → marks_after (Log j es) μ ≡ marks_after es (P j).map
  unfolding logged point_at
  logged_marks zero f es = refl
  logged_marks (suc j) f es =
      logged_marks j (λ i l. f i (omega arith)) (events_at j (steps_of (act j)) es) ∙ act_marks_lem j (act j) es (P j).map ∙ ap (marks_after es) (sym (Counted-marks j (f j (omega arith))))

  -- is the run's
  pub Ran-map : (j : ℕ) → Ran M ws st μ j → (watch M ws 0 st μ).map ≡ (P j).map
  unfolding marks_after
  Ran-map j r = sym (run_marks M ws 0 st μ) ∙ ap (λ (es : List Event). marks_after es μ) r.steps ∙ logged_marks j r.counted []

  -- ---- walking back

  -- down to word j, at place p
  pub record Backed (j : ℕ) (p : Place) (ps : List Pair) (q : Place) : Type 0 where
    pub rest : List Event
    pub whole : Log j rest ≡ run_steps M ws 0 st μ
    pub unknown : known (P j).map p ≡ false
    pub through : Through rest (P j).map p ps q

  module _ (q : Place) where
    pub Backed-end : (j : ℕ) → Ran M ws st μ j → known (watch M ws 0 st μ).map q ≡ false → Backed j q [] q
    Backed-end j r u = record { rest = []; whole = sym r.steps; unknown = ap (λ (ν : Map). known ν q) (sym (Ran-map j r)) ∙ u; through = ends }

    pub Backed-word : (j : ℕ) (p r : Place) (ls ps : List Pair) → Counted j → Backed (suc j) p ps q → Way j (act j) (P j).map r ls p → Backed j r (ls ++ ps) q
    unfolding logged marks_after
    Backed-word j p r ls ps c b w =
        record {
          rest = events_at j (steps_of (act j)) b.rest;
          whole = b.whole;
          unknown = w.unknown;
          through = join_at j (steps_of (act j)) w.through
              (subst (λ (ν : Map). Through b.rest ν p ps q) (Counted-marks j c ∙ sym (act_marks_lem j (act j) [] (P j).map)) b.through);
        }

    pub Backed-start : (p : Place) (ps : List Pair) → Backed 0 p ps q → Chain M ws st μ p ps q
    unfolding logged point_at
    Backed-start p ps b = record { unknown = b.unknown; through = subst (λ (es : List Event). Through es μ p ps q) b.whole b.through }
