-- The laws by which the code's proofs use the language of meanings, so that they never open its definitions.
use Prim.Native.Nat.{ℕ, suc, ◌+◌, ◌≤◌, ◌<◌}
use native.Mathlib.Numerals.{add-one}
use mathlib.Core.Path.{◌≡◌, refl, ap, ◌∙◌}
use mathlib.Core.List.{List, [], ◌∷◌}
use mathlib.Core.Bool.{Bool, true, false, cond}
use lib.ListN.{length, get_or, drop, drop_of_length-le}
use lib.Seq.{set-get_or, drop-cons}
use Rattle.machine.specs.Place.{Place, core, State, get, number}
use Rattle.meaning.specs.Map.{Map, known}
use Rattle.meaning.specs.Step.{Step, Act, step, after, act, step_marks, after_marks, grow, once, nothing}
use Rattle.meaning.specs.Stop.{Stop, finished, branched, hangs}
use Rattle.meaning.specs.Tree.{Tree, stop, go, branch, ask, on, last, halt, Out, out, plain, Seen, seen, watched}
use Rattle.meaning.specs.Hang.{Hang, clear, at, hang_of, marked}
use Rattle.meaning.specs.Run.{advance, ended, follow, run, ended_with, follow_with, watch}

-- ---- a family of steps, one more

pub after_none : (each : ℕ → Step) (st : State) → st ≡ after 0 each st
unfolding after
after_none each st = refl

pub after_one : (i : ℕ) (each : ℕ → Step) (st x : State) → x ≡ after i each st → step (each i) x ≡ after (i + 1) each st
unfolding after
after_one i each st x e = rw (add-one i) (ap (step (each i)) e)

pub marks_none : (each : ℕ → Step) (μ : Map) → μ ≡ after_marks 0 each μ
unfolding after_marks
marks_none each μ = refl

pub marks_one : (i : ℕ) (each : ℕ → Step) (μ x : Map) → x ≡ after_marks i each μ → step_marks (each i) x ≡ after_marks (i + 1) each μ
unfolding after_marks
marks_one i each μ x e = rw (add-one i) (ap (step_marks (each i)) e)

-- a core register that grows keeps its mark
pub grow_marks : (n k : ℕ) (μ : Map) → step_marks (grow (core n) k ∷ []) μ ≡ μ
grow_marks n k μ = rw (set-get_or μ.marks.r n false)

-- ---- the plain evaluation of a tree

pub plain-stop : (s : Stop) (st : State) → out st (halt s) ≡ plain (stop s) st
unfolding plain
plain-stop s st = refl

pub plain-go : (a : Act) (st x : State) → x ≡ act a st → out x on ≡ plain (go a) st
unfolding plain
plain-go a st x e = ap (λ (s : State). out s on) e

pub plain-once : (s : Step) (st x : State) → x ≡ step s st → out x on ≡ plain (go (once s)) st
unfolding plain after
plain-once s st x e = ap (λ (t : State). out t on) e

pub plain-nothing : (st : State) → out st on ≡ plain (go nothing) st
unfolding plain after
plain-nothing st = refl

pub plain-branch : (s : Step) (st x : State) → x ≡ step s st → out x last ≡ plain (branch (once s)) st
unfolding plain after
plain-branch s st x e = ap (λ (t : State). out t last) e

pub plain-ask : (p : Place) (k : ℕ → Tree) (st : State) (o : Out) → o ≡ plain (k (get st p)) st → o ≡ plain (ask p k) st
unfolding plain
plain-ask p k st o e = e

-- a counted family of steps, and a last one
pub plain_family : (n : ℕ) (each : ℕ → Step) (st x : State) → x ≡ after n each st → out x on ≡ plain (go (record { count = n; each = each; tail = [] })) st
unfolding plain
plain_family n each st x e = ap (λ (s : State). out s on) e

pub plain_then : (n : ℕ) (each : ℕ → Step) (tail : Step) (st x y : State) → x ≡ after n each st → y ≡ step tail x
    → out y on ≡ plain (go (record { count = n; each = each; tail = tail })) st
unfolding plain
plain_then n each tail st x y d e = ap (λ (s : State). out s on) (e ∙ ap (step tail) d)

-- ---- a watched word is a hang, or the plain word with its marks

abbrev Split : Hang → Seen → Tree → State → Map → Type 0
Split clear o t st μ = o ≡ seen (plain t st).st (marked t st μ) (plain t st).next
Split (at n) o t st μ = o ≡ seen st μ (halt (hangs n))

split : (t : Tree) (st : State) (μ : Map) → Split (hang_of t st μ) (watched t st μ) t st μ
unfolding hang_of watched marked plain
split (stop s) st μ = refl
split (go a) st μ = refl
split (branch a) st μ = refl
split (ask p k) st μ = by (split (k (get st p)) st μ) (known μ p)
  where
    by : Split (hang_of (k (get st p)) st μ) (watched (k (get st p)) st μ) (k (get st p)) st μ → (b : Bool)
        → Split (cond b (hang_of (k (get st p)) st μ) (at (number p)))
        (cond b (watched (k (get st p)) st μ) (seen st μ (halt (hangs (number p))))) (ask p k) st μ
    by ih true = under (hang_of (k (get st p)) st μ) ih
      where
        under : (h : Hang) → Split h (watched (k (get st p)) st μ) (k (get st p)) st μ → Split h (watched (k (get st p)) st μ) (ask p k) st μ
        under clear e = e
        under (at n) e = e
    by ih false = refl

pub split_clear : (t : Tree) (st : State) (μ : Map) → hang_of t st μ ≡ clear → watched t st μ ≡ seen (plain t st).st (marked t st μ) (plain t st).next
split_clear t st μ e = rw e at (split t st μ)

pub split_at : (t : Tree) (st : State) (μ : Map) (n : ℕ) → hang_of t st μ ≡ at n → watched t st μ ≡ seen st μ (halt (hangs n))
split_at t st μ n e = rw e at (split t st μ)

-- ---- the map that a word leaves

pub marked-stop : (s : Stop) (st : State) (μ : Map) → μ ≡ marked (stop s) st μ
unfolding marked
marked-stop s st μ = refl

pub marked-ask : (p : Place) (k : ℕ → Tree) (st : State) (μ x : Map) → x ≡ marked (k (get st p)) st μ → x ≡ marked (ask p k) st μ
unfolding marked
marked-ask p k st μ x e = e

pub marked-once : (s : Step) (st : State) (μ x : Map) → x ≡ step_marks s μ → x ≡ marked (go (once s)) st μ
unfolding marked after_marks
marked-once s st μ x e = e

pub marked-branch : (s : Step) (st : State) (μ x : Map) → x ≡ step_marks s μ → x ≡ marked (branch (once s)) st μ
unfolding marked after_marks
marked-branch s st μ x e = e

pub marked-nothing : (st : State) (μ : Map) → μ ≡ marked (go nothing) st μ
unfolding marked after_marks
marked-nothing st μ = refl

pub marked_family : (n : ℕ) (each : ℕ → Step) (st : State) (μ x : Map) → x ≡ after_marks n each μ → x ≡ marked (go (record { count = n; each = each; tail = [] })) st μ
unfolding marked
marked_family n each st μ x e = e

pub marked_then : (n : ℕ) (each : ℕ → Step) (tail : Step) (st : State) (μ x y : Map) → x ≡ after_marks n each μ → y ≡ step_marks tail x
    → y ≡ marked (go (record { count = n; each = each; tail = tail })) st μ
unfolding marked
marked_then n each tail st μ x y d e = e ∙ ap (step_marks tail) d

-- ---- the place that a word hangs on

pub clear-go : (a : Act) (st : State) (μ : Map) → clear ≡ hang_of (go a) st μ
unfolding hang_of
clear-go a st μ = refl

-- ---- the runs, unrolled by one word of the list from i on

module _ (M : ℕ → Tree) (ws : List ℕ) (i : ℕ) (h : i < length ws) (st : State) where
  run_word : run M (drop i ws) i st
      ≡ (let o = plain (M (get_or ws i 0)) st in follow o.next o.st i (run M (drop (suc i) ws) (suc i) (step advance o.st)))
  unfolding run
  run_word = rw (drop-cons ws i 0)

  module _ (o : Out) (e : o ≡ plain (M (get_or ws i 0)) st) where
    pub run-on : (y : State) → y ≡ step advance o.st → o.next ≡ on → run M (drop (i + 1) ws) (i + 1) y ≡ run M (drop i ws) i st
    unfolding follow
    run-on y g n = rw (run_word, add-one i, ← e, n, g)

    pub run-last : o.next ≡ last → ended o.st (i + 1) branched ≡ run M (drop i ws) i st
    unfolding follow
    run-last n = rw (run_word, add-one i, ← e, n)

    pub run-halt : (s : Stop) → o.next ≡ halt s → ended o.st i s ≡ run M (drop i ws) i st
    unfolding follow
    run-halt s n = rw (run_word, ← e, n)

pub run_end : (M : ℕ → Tree) (ws : List ℕ) (i : ℕ) (st : State) → length ws ≤ i → ended st i finished ≡ run M (drop i ws) i st
unfolding run
run_end M ws i st h = rw (drop_of_length-le ws h)

module _ (M : ℕ → Tree) (ws : List ℕ) (i : ℕ) (h : i < length ws) (st : State) (μ : Map) where
  watch_word : watch M (drop i ws) i st μ
      ≡ (let o = watched (M (get_or ws i 0)) st μ in follow_with o.next o.st o.map i (watch M (drop (suc i) ws) (suc i) (step advance o.st) o.map))
  unfolding watch
  watch_word = rw (drop-cons ws i 0)

  module _ (o : Seen) (e : o ≡ watched (M (get_or ws i 0)) st μ) where
    pub watch-on : (y : State) → y ≡ step advance o.st → o.next ≡ on → watch M (drop (i + 1) ws) (i + 1) y o.map ≡ watch M (drop i ws) i st μ
    unfolding follow_with
    watch-on y g n = rw (watch_word, add-one i, ← e, n, g)

    pub watch-last : o.next ≡ last → ended_with o.st o.map (i + 1) branched ≡ watch M (drop i ws) i st μ
    unfolding follow_with
    watch-last n = rw (watch_word, add-one i, ← e, n)

    pub watch-halt : (s : Stop) → o.next ≡ halt s → ended_with o.st o.map i s ≡ watch M (drop i ws) i st μ
    unfolding follow_with
    watch-halt s n = rw (watch_word, ← e, n)

pub watch_end : (M : ℕ → Tree) (ws : List ℕ) (i : ℕ) (st : State) (μ : Map) → length ws ≤ i → ended_with st μ i finished ≡ watch M (drop i ws) i st μ
unfolding watch
watch_end M ws i st μ h = rw (drop_of_length-le ws h)
