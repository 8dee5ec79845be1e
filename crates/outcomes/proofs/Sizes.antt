-- A watched run leaves as many registers and marks as there were.
use Prim.Native.Nat.{ℕ, zero, suc}
use mathlib.Core.Path.{◌∙◌}
use mathlib.Core.Bool.{Bool, true, false, cond}
use mathlib.Core.List.{List, [], ◌∷◌}
use lib.ListN.{length-set}
use Rattle.machine.specs.Machine.{Sized}
use Rattle.machine.specs.Place.{Place, single, core, word, flags, control, exc, nzcv, exceptions, State, get, put, number}
use Rattle.meaning.specs.Map.{Map, known, mark}
use Rattle.meaning.specs.Step.{Step, Act, stored, put_all, step, after, act, all_known, mark_all, after_marks, act_marks}
use Rattle.meaning.specs.Stop.{hangs}
use Rattle.meaning.specs.Tree.{Tree, stop, go, branch, ask, Next, on, last, halt, seen, watched}
use Rattle.meaning.specs.Run.{advance, Watched, follow_with, watch}
use Rattle.watch.specs.Demand.{Mapped}

-- ---- registers

put-Sized : (st : State) (p : Place) (v : ℕ) → Sized st.machine → Sized (put st p v).machine
put-Sized st (single n) v z = record { s = length-set st.machine.s n v ∙ z.s; r = z.r }
put-Sized st (core n) v z = record { s = z.s; r = length-set st.machine.r n v ∙ z.r }
put-Sized st (word n) v z = z
put-Sized st flags v z = record { s = z.s; r = z.r }
put-Sized st control v z = record { s = z.s; r = z.r }
put-Sized st exc v z = record { s = z.s; r = z.r }
put-Sized st nzcv v z = record { s = z.s; r = z.r }
put-Sized st exceptions v z = record { s = z.s; r = z.r }

writes_Sized : (a : State) (x : Step) (st : State) → Sized st.machine → Sized (put_all a x st).machine
writes_Sized a [] st z = z
writes_Sized a (w ∷ ws) st z = writes_Sized a ws (put st w.target (stored a w)) (put-Sized st w.target (stored a w) z)

after-Sized : (n : ℕ) (each : ℕ → Step) (st : State) → Sized st.machine → Sized (after n each st).machine
unfolding after
after-Sized zero each st z = z
after-Sized (suc n) each st z = writes_Sized (after n each st) (each n) (after n each st) (after-Sized n each st z)

act-Sized : (x : Act) (st : State) → Sized st.machine → Sized (act x st).machine
act-Sized x st z = writes_Sized (after x.count x.each st) x.tail (after x.count x.each st) (after-Sized x.count x.each st z)

-- ---- marks

mark-Mapped : (μ : Map) (p : Place) (b : Bool) → Mapped μ → Mapped (mark μ p b)
mark-Mapped μ (single n) b z = record { s = length-set μ.marks.s n b ∙ z.s; r = z.r }
mark-Mapped μ (core n) b z = record { s = z.s; r = length-set μ.marks.r n b ∙ z.r }
mark-Mapped μ (word n) b z = record { s = z.s; r = z.r }
mark-Mapped μ flags b z = record { s = z.s; r = z.r }
mark-Mapped μ control b z = record { s = z.s; r = z.r }
mark-Mapped μ exc b z = record { s = z.s; r = z.r }
mark-Mapped μ nzcv b z = record { s = z.s; r = z.r }
mark-Mapped μ exceptions b z = record { s = z.s; r = z.r }

writes_Mapped : (ν : Map) (x : Step) (μ : Map) → Mapped μ → Mapped (mark_all ν x μ)
writes_Mapped ν [] μ z = z
writes_Mapped ν (w ∷ ws) μ z = writes_Mapped ν ws (mark μ w.target (all_known ν w.sources)) (mark-Mapped μ w.target (all_known ν w.sources) z)

after_Mapped : (n : ℕ) (each : ℕ → Step) (μ : Map) → Mapped μ → Mapped (after_marks n each μ)
unfolding after_marks
after_Mapped zero each μ z = z
after_Mapped (suc n) each μ z = writes_Mapped (after_marks n each μ) (each n) (after_marks n each μ) (after_Mapped n each μ z)

act_Mapped : (x : Act) (μ : Map) → Mapped μ → Mapped (act_marks x μ)
act_Mapped x μ z = writes_Mapped _ x.tail _ (after_Mapped x.count x.each μ z)

-- ---- both, of a word and of a run

abbrev pub Sizes : State → Map → Type 0
Sizes st μ = Sized st.machine × Mapped μ

word_Sizes : (t : Tree) (st : State) (μ : Map) → Sizes st μ → Sizes (watched t st μ).st (watched t st μ).map
unfolding watched
word_Sizes (stop s) st μ z = z
word_Sizes (go a) st μ z = (act-Sized a st z.0, act_Mapped a μ z.1)
word_Sizes (branch a) st μ z = (act-Sized a st z.0, act_Mapped a μ z.1)
word_Sizes (ask p k) st μ z = by (word_Sizes (k (get st p)) st μ z) (known μ p)
  where
    by : Sizes (watched (k (get st p)) st μ).st (watched (k (get st p)) st μ).map → (b : Bool)
        → Sizes (cond b (watched (k (get st p)) st μ) (seen st μ (halt (hangs (number p))))).st
        (cond b (watched (k (get st p)) st μ) (seen st μ (halt (hangs (number p))))).map
    by ih true = ih
    by ih false = z

follow_Sizes : (x : Next) (st : State) (μ : Map) (n : ℕ) (more : Watched) → Sizes st μ → Sizes more.st more.map
    → Sizes (follow_with x st μ n more).st (follow_with x st μ n more).map
unfolding follow_with
follow_Sizes on st μ n more z h = h
follow_Sizes last st μ n more z h = z
follow_Sizes (halt s) st μ n more z h = z

module _ (M : ℕ → Tree) where
  pub watch-Sizes : (ws : List ℕ) (n : ℕ) (st : State) (μ : Map) → Sizes st μ → Sizes (watch M ws n st μ).st (watch M ws n st μ).map
  unfolding watch
  watch-Sizes [] n st μ z = z
  watch-Sizes (w ∷ ws) n st μ z =
      let o = watched (M w) st μ in
      let y : Sizes o.st o.map = word_Sizes (M w) st μ z in
      follow_Sizes o.next o.st o.map n (watch M ws (suc n) (step advance o.st) o.map) y
      (watch-Sizes ws (suc n) (step advance o.st) o.map (writes_Sized o.st advance o.st y.0, y.1))
