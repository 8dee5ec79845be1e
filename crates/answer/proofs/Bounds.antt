-- The counts and the places of runs fit in a word, and within the limits no run reports a refusal.
use Prim.Native.Nat.{ℕ, suc, ◌+◌, ◌^◌, ◌<◌, ◌≤◌}
use native.Mathlib.Omega.{arith}
use mathlib.Core.Path.{◌≡◌, refl, sym, subst}
use mathlib.Core.Bool.{Bool, true, false, cond}
use mathlib.Core.List.{List, [], ◌∷◌}
use lib.Dec.{eqb}
use lib.Ieee.{Format, binary32, binary64}
use lib.ListN.{length}
use borrow.Author.Tests.{eqb-true}
use Rattle.bits.specs.Field.{field, bit_of}
use Rattle.bits.specs.Psr.{holds, psr_of}
use Rattle.machine.specs.Place.{State, before, get, number}
use Rattle.meaning.specs.Map.{Map, known}
use Rattle.meaning.specs.Step.{step, nothing}
use Rattle.meaning.specs.Stop.{Stop, foreign, Report, report, hangs, refused}
use Rattle.meaning.specs.Tree.{Tree, stop, go, branch, ask, Next, on, last, halt, exit_of, plain, seen, watched}
use Rattle.decoding.specs.declared.operation.Operation.TheVariants as O
use Rattle.decoding.specs.declared.operation.Operation.{Operation}
use Rattle.decoding.specs.Operation.{operation_of}
use Rattle.decoding.specs.declared.operation.Operation.TheVariants.{Fmac, Fnmac, Fmsc, Fnmsc, Fmul, Fnmul, Fadd, Fsub, Fdiv, Fcpy, Fabs, Fneg, Fsqrt, Fcmp, Fcmpe, Fcmpz, Fcmpez, Fcvt, Fuito, Fsito, Ftoui, Ftouiz, Ftosi, Ftosiz}
use Rattle.processing.specs.Data.{operation_tree, data_tree, undefined_tree}
use Rattle.transfers.specs.declared.Transfer.{Transfer}
use Rattle.transfers.specs.declared.Transfer.TheVariants.{System, Single, Nothing}
use Rattle.transfers.specs.Transfer.{transfer_tree, transfer_of, transfer_by, system_tree, single_tree}
use Rattle.memory.specs.LoadStore.{access_tree, load_store_tree}
use Rattle.limits.specs.Limit.{run_limit}
use Rattle.word_class.specs.Word.{foreign_word, class_tree, exempt, enabled, conditioned, meaning}
use Rattle.progress.specs.declared.Ran.{Ran}
use Rattle.watch.specs.declared.Watched.{Watched}
use Rattle.watch.specs.Watch.{limit_of, watch_reply}
use Rattle.limits.proofs.Limits.{run_within, list_within}
use Rattle.run.specs.Run as Run
use Rattle.run_word.specs.Stop.{stop_of}
use Rattle.watch.specs.Watch as Watch
use Rattle.meaning.specs.Run as R

-- ---- the places that a word asks for

-- a place before the window, and a kind that is no refusal
abbrev pub Fine : Stop → Type 0
Fine s = ((report s).place < before) × ((report s).kind < 100)

-- every place that a tree asks for stands before the window, and no leaf hangs by itself
unfoldable pub Near : Tree → Type 0
Near (stop s) = Fine s
Near (go a) = ◌≡◌ {A = ℕ} 0 0
Near (branch a) = ◌≡◌ {A = ℕ} 0 0
Near (ask p k) = (number p < before) × ((v : ℕ) → Near (k v))

either : (b : Bool) (t u : Tree) → Near t → Near u → Near (cond b t u)
either true t u p q = p
either false t u p q = q

Near-operation : (thumb : Bool) (f : Format) (w : ℕ) (o : Operation) → Near (operation_tree thumb f w o)
unfolding Near operation_tree
Near-operation thumb f w Fmac = (omega arith, λ v. refl)
Near-operation thumb f w Fnmac = (omega arith, λ v. refl)
Near-operation thumb f w Fmsc = (omega arith, λ v. refl)
Near-operation thumb f w Fnmsc = (omega arith, λ v. refl)
Near-operation thumb f w Fmul = (omega arith, λ v. refl)
Near-operation thumb f w Fnmul = (omega arith, λ v. refl)
Near-operation thumb f w Fadd = (omega arith, λ v. refl)
Near-operation thumb f w Fsub = (omega arith, λ v. refl)
Near-operation thumb f w Fdiv = (omega arith, λ v. refl)
Near-operation thumb f w Fcpy = (omega arith, λ v. refl)
Near-operation thumb f w Fabs = (omega arith, λ v. refl)
Near-operation thumb f w Fneg = (omega arith, λ v. refl)
Near-operation thumb f w Fsqrt = (omega arith, λ v. refl)
Near-operation thumb f w Fcmp = refl
Near-operation thumb f w Fcmpe = refl
Near-operation thumb f w Fcmpz = refl
Near-operation thumb f w Fcmpez = refl
Near-operation thumb f w Fcvt = refl
Near-operation thumb f w Fuito = refl
Near-operation thumb f w Fsito = refl
Near-operation thumb f w Ftoui = refl
Near-operation thumb f w Ftouiz = refl
Near-operation thumb f w Ftosi = refl
Near-operation thumb f w Ftosiz = refl
Near-operation thumb f w O.Undefined = (omega arith, λ v. (omega arith, omega arith))

Near-undefined : (thumb : Bool) (w : ℕ) → Near (undefined_tree thumb w)
unfolding Near
Near-undefined thumb w = (omega arith, λ v. (omega arith, omega arith))

pub Near-data : (thumb : Bool) (w : ℕ) → Near (data_tree thumb w)
unfolding data_tree
Near-data thumb w =
    either (eqb (field w 8 11) 10) _ _ (Near-operation thumb binary32 w (operation_of w))
    (either (eqb (field w 8 11) 11) _ _ (Near-operation thumb binary64 w (operation_of w)) (Near-undefined thumb w))

Near-system : (w : ℕ) → Near (system_tree w)
unfolding Near
Near-system w = either (bit_of w 20) _ _ (either (eqb (field w 12 15) 15) _ _ refl refl) refl

Near-single : (thumb : Bool) (n w : ℕ) → Near (single_tree thumb n w)
unfolding Near
Near-single thumb n w = either (bit_of w 20) _ _ (either (eqb (field w 12 15) 15) _ _ refl refl) refl

Near-nothing : Near (go nothing)
unfolding Near
Near-nothing = refl

pub Near-transfer : (thumb : Bool) (w : ℕ) → Near (transfer_tree thumb w)
unfolding transfer_tree
Near-transfer thumb w = by (transfer_of w)
  where
    by : (t : Transfer) → Near (transfer_by t thumb w)
    by System = Near-system w
    by (Single n) = Near-single thumb n.0 w
    by Nothing = Near-nothing

Near-access : (f : Format) (base w : ℕ) → Near (access_tree f base w)
unfolding access_tree Near
Near-access f base w = either (eqb (field w 21 27) 0b110_0010) _ _ refl (omega arith, λ v. refl)

pub Near-load_store : (base w : ℕ) → Near (load_store_tree base w)
unfolding load_store_tree
Near-load_store base w = either (eqb (field w 8 11) 10) _ _ (Near-access binary32 base w) (either (eqb (field w 8 11) 11) _ _ (Near-access binary64 base w) Near-nothing)

Near-class : (base w : ℕ) → Near (class_tree base w)
unfolding class_tree
Near-class base w = either (eqb (field w 25 27) 0b110) _ _ (Near-load_store base w) (either (bit_of w 4) _ _ (Near-transfer false w) (Near-data false w))

Near-enabled : (w : ℕ) (t : Tree) → Near t → Near (enabled w t)
unfolding enabled Near
Near-enabled w t h = either (exempt w) t _ h (omega arith, λ e. either (bit_of e 30) t (undefined_tree false w) h (Near-undefined false w))

Near-conditioned : (c : ℕ) (t : Tree) → Near t → Near (conditioned c t)
unfolding conditioned Near
Near-conditioned c t h = either (eqb c 14) t _ h (omega arith, λ f. either (holds c (psr_of f)) t (go nothing) h refl)

Near-foreign : Near (stop foreign)
unfolding Near
Near-foreign = (omega arith, omega arith)

pub Near-meaning : (base w : ℕ) → Near (meaning base w)
unfolding meaning
Near-meaning base w = either (foreign_word w) _ _ Near-foreign (Near-conditioned (field w 28 31) (enabled w (class_tree base w)) (Near-enabled w (class_tree base w) (Near-class base w)))

-- ---- the stops and the counts of runs

pub plain-Fine : (t : Tree) (st : State) → Near t → Fine (exit_of (plain t st).next)
unfolding Near plain
plain-Fine (stop s) st h = h
plain-Fine (go a) st h = (omega arith, omega arith)
plain-Fine (branch a) st h = (omega arith, omega arith)
plain-Fine (ask p k) st h = plain-Fine (k (get st p)) st (h.1 (get st p))

watched-Fine : (t : Tree) (st : State) (μ : Map) → Near t → Fine (exit_of (watched t st μ).next)
unfolding Near watched
watched-Fine (stop s) st μ h = h
watched-Fine (go a) st μ h = (omega arith, omega arith)
watched-Fine (branch a) st μ h = (omega arith, omega arith)
watched-Fine (ask p k) st μ h = by (watched-Fine (k (get st p)) st μ (h.1 (get st p))) (known μ p)
  where
    by : Fine (exit_of (watched (k (get st p)) st μ).next) → (b : Bool)
        → Fine (exit_of (cond b (watched (k (get st p)) st μ) (seen st μ (halt (hangs (number p))))).next)
    by ih true = ih
    by ih false = (h.0, omega arith)

-- a stop whose place stands before the window, and a count of at most k words
abbrev pub Bounded : ℕ → Stop → ℕ → Type 0
Bounded k s count = Fine s × (count ≤ k)

module _ (M : ℕ → Tree) (near : (w : ℕ) → Near (M w)) where
  followed : (x : Next) (st : State) (n k : ℕ) (more : R.Ended) → Fine (exit_of x) → Bounded (suc n + k) more.stop more.count
      → Bounded (n + suc k) (R.follow x st n more).stop (R.follow x st n more).count
  unfolding R.follow
  followed on st n k more f b = (b.0, omega (arith, b.1))
  followed last st n k more f b = (f, omega arith)
  followed (halt s) st n k more f b = (f, omega arith)

  pub run-Bounded : (ws : List ℕ) (n : ℕ) (st : State) → Bounded (n + length ws) (R.run M ws n st).stop (R.run M ws n st).count
  unfolding R.run
  run-Bounded [] n st = ((omega arith, omega arith), omega arith)
  run-Bounded (w ∷ ws) n st =
      let o = plain (M w) st in
      followed o.next o.st n (length ws) (R.run M ws (suc n) (step R.advance o.st)) (plain-Fine (M w) st (near w))
      (run-Bounded ws (suc n) (step R.advance o.st))

  followed_with : (x : Next) (st : State) (μ : Map) (n k : ℕ) (more : R.Watched) → Fine (exit_of x) → Bounded (suc n + k) more.stop more.count
      → Bounded (n + suc k) (R.follow_with x st μ n more).stop (R.follow_with x st μ n more).count
  unfolding R.follow_with
  followed_with on st μ n k more f b = (b.0, omega (arith, b.1))
  followed_with last st μ n k more f b = (f, omega arith)
  followed_with (halt s) st μ n k more f b = (f, omega arith)

  pub watch-Bounded : (ws : List ℕ) (n : ℕ) (st : State) (μ : Map) → Bounded (n + length ws) (R.watch M ws n st μ).stop (R.watch M ws n st μ).count
  unfolding R.watch
  watch-Bounded [] n st μ = ((omega arith, omega arith), omega arith)
  watch-Bounded (w ∷ ws) n st μ =
      let o = watched (M w) st μ in
      followed_with o.next o.st o.map n (length ws) (R.watch M ws (suc n) (step R.advance o.st) o.map) (watched-Fine (M w) st μ (near w))
      (watch-Bounded ws (suc n) (step R.advance o.st) o.map)

-- ---- of replies

-- what fits in a word
abbrev pub Fits : Report → ℕ → Type 0
Fits x count = (count < 2 ^ 32) × (x.place < 2 ^ 32)

run_Fits : (base : ℕ) (list : List ℕ) (st : State) → Fits (Run.run_reply base list st).report (Run.run_reply base list st).count
run_Fits base list st = by (eqb n 0) refl
  where
    n : ℕ
    n = run_limit (length list) base (length st.window) st.machine.thumb

    y : Bool → Run.Reply
    y b = cond b (Run.reply (R.run (meaning base) list 0 st)) (record { report = report (refused n); count = 0; leaves = st })

    by : (b : Bool) → eqb n 0 ≡ b → Fits (y b).report (y b).count
    by true e =
        let b = run-Bounded (meaning base) (Near-meaning base) list 0 st in
        let l = list_within (length list) base (length st.window) st.machine.thumb (eqb-true n 0 e) in
        (omega (arith, b.1, l), omega (arith, b.0.0))
    by false e = (omega arith, omega arith)

pub ran_Fits : (base : ℕ) (list : List ℕ) (st : State) (x : Ran) (w : List ℕ) → Run.answered x w ≡ Run.run_reply base list st → Fits (report (stop_of x.stop)) x.count
ran_Fits base list st x w e = subst (λ (y : Run.Reply). Fits y.report y.count) (sym e) (run_Fits base list st)

pub watch_Fits : (base : ℕ) (list : List ℕ) (st : State) (μ : Map) → Fits (watch_reply base list st μ).report (watch_reply base list st μ).count
unfolding watch_reply
watch_Fits base list st μ = by (eqb n 0) refl
  where
    n : ℕ
    n = limit_of base list st μ

    y : Bool → Watch.Reply
    y b = cond b (Watch.reply (R.watch (meaning base) list 0 st μ)) (record { report = report (refused n); count = 0; leaves = st; map = μ })

    by : (b : Bool) → eqb n 0 ≡ b → Fits (y b).report (y b).count
    by true e =
        let b = watch-Bounded (meaning base) (Near-meaning base) list 0 st μ in
        let l = list_within (length list) base (length st.window) st.machine.thumb (run_within (length list) base (length st.window) st.machine.thumb μ.words (eqb-true n 0 e)) in
        (omega (arith, b.1, l), omega (arith, b.0.0))
    by false e = (omega arith, omega arith)

pub watched_Fits : (base : ℕ) (list : List ℕ) (st : State) (μ : Map) (x : Watched) (w v : List ℕ) → Watch.answered x w v ≡ watch_reply base list st μ
    → Fits (report (stop_of x.stop)) x.count
watched_Fits base list st μ x w v e = subst (λ (y : Watch.Reply). Fits y.report y.count) (sym e) (watch_Fits base list st μ)
