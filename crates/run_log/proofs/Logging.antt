-- The watched run with its log, word by word.
use Prim.Native.Nat.{ℕ, suc, ◌+◌, ◌≤◌, ◌<◌}
use native.Mathlib.Omega.{arith}
use native.Mathlib.Numerals.{add-one}
use native.Mathlib.Decide.{ℕ_discrete}
use mathlib.Core.Path.{◌≡◌, refl, ap, sym, ◌∙◌, subst}
use mathlib.Core.Bool.{Bool, false, not}
use mathlib.Core.List.{List}
use lib.ListN.{length, get_or, set, drop, length-set}
use lib.Seq.{get_or-set_same, get_or-set_other}
use Rattle.bits.specs.Field.{field}
use Rattle.bits.specs.Psr.{holds}
use Rattle.machine.specs.Place.{State}
use Rattle.meaning.specs.Map.{Map}
use Rattle.meaning.specs.Step.{step}
use Rattle.meaning.specs.Stop.{Stop, finished, branched}
use Rattle.meaning.specs.Tree.{on, last, halt, Seen, watched}
use Rattle.meaning.specs.Run.{advance, ended_with, watch}
use Rattle.meaning.proofs.Laws.{watch-on, watch-last, watch-halt, watch_end}
use Rattle.place_marks.specs.Word.{map_in}
use Rattle.word_class.specs.Word.{meaning}
use Rattle.reached.specs.Point.{Point, point_at, seen_at}
use Rattle.reached.proofs.Reached.{Reached, Reached-none, Reached-on, Reached-last, Reached-halt, Reached-end}
use Rattle.word_sources.specs.Value.{value_of}
use Rattle.run_log.specs.Log.{Log, Logged}

-- below n + 1 is below n, or n
one_more : {P : ℕ → Type 0} (n : ℕ) → ((i : ℕ) → i < n → P i) → P n → (i : ℕ) → i < suc n → P i
one_more {P} n f p i l = by (ℕ_discrete i n)
  where
    by : Dec (i ≡ n) → P i
    by (yes e) = subst P (sym e) p
    by (no d) = f i (omega (arith, d))

module _ (base : ℕ) (list : List ℕ) (st : State) (μ : Map) where
  abbrev P : ℕ → Point
  P = point_at (meaning base) list st μ

  -- word i is logged over what was there
  pub record Noted (i : ℕ) (cur : State) (m : ℕ) (ms vs : List ℕ) (ss : List Bool) (ms' vs' : List ℕ) (ss' : List Bool) : Type 0 where
    pub marks : ms' ≡ set ms i m
    pub value : vs' ≡ set vs i (value_of (get_or list i 0) cur)
    pub skip : ss' ≡ set ss i (not (holds (field (get_or list i 0) 28 31) cur.machine.cpsr))

  -- before word i, in the state cur with the map ν
  pub record Going (i : ℕ) (cur : State) (ν : Map) (ms vs : List ℕ) (ss : List Bool) : Type 0 where
    pub here : cur ≡ (P i).st
    pub map : ν ≡ (P i).map
    pub reached : Reached (meaning base) list st μ i
    pub log : length list ≤ length ms → Log base list st μ i ms vs ss
    pub same : watch (meaning base) (drop i list) i cur ν ≡ watch (meaning base) list 0 st μ
    pub values_size : length vs ≡ length ms
    pub skips_size : length ss ≡ length ms

  pub Going-none : (ms vs : List ℕ) (ss : List Bool) → length vs ≡ length ms → length ss ≡ length ms → Going 0 st μ ms vs ss
  unfolding point_at
  Going-none ms vs ss ev es =
      record {
        here = refl;
        map = refl;
        reached = Reached-none (meaning base) list st μ;
        log = λ z. record { marks = λ i l. absurd (omega arith); value = λ i l. absurd (omega arith); skip = λ i l. absurd (omega arith) };
        same = refl;
        values_size = ev;
        skips_size = es;
      }

  module _ (i : ℕ) (h : i < length list) (cur : State) (m : ℕ) (w : List ℕ) (ms vs : List ℕ) (ss : List Bool) (g : Going i cur (map_in m w) ms vs ss) (ms' vs' : List ℕ) (ss' : List Bool)
      (n : Noted i cur m ms vs ss ms' vs' ss') where
    -- what is logged before a word stays, and the word is logged
    marks_length : length ms' ≡ length ms
    marks_length = ap length n.marks ∙ simp length-set

    logs : length list ≤ length ms' → Log base list st μ (suc i) ms' vs' ss'
    unfolding map_in
    logs room =
        record {
          marks = one_more {P = λ j. (P j).map ≡ map_in (get_or ms' j 0) (P j).map.words} i
              (λ j l. was.marks j l ∙ ap (λ (k : ℕ). map_in k (P j).map.words) (sym (other_number ms ms' m n.marks j l)))
              (sym g.map ∙ rw (← g.map, n.marks, get_or-set_same ms i m 0 below) refl);
          value = one_more {P = λ j. get_or vs' j 0 ≡ value_of (get_or list j 0) (P j).st} i
              (λ j l. other_number vs vs' _ n.value j l ∙ was.value j l)
              (rw (n.value, get_or-set_same vs i (value_of (get_or list i 0) cur) 0 (omega (arith, g.values_size, below)), ← g.here) refl);
          skip = one_more {P = λ j. get_or ss' j false ≡ not (holds (field (get_or list j 0) 28 31) (P j).st.machine.cpsr)} i
              (λ j l. ap (λ (x : List Bool). get_or x j false) n.skip ∙ get_or-set_other ss i j _ false (λ e. omega arith) ∙ was.skip j l)
              (rw (n.skip, get_or-set_same ss i (not (holds (field (get_or list i 0) 28 31) cur.machine.cpsr)) false (omega (arith, g.skips_size, below)), ← g.here) refl);
        }
      where
        was : Log base list st μ i ms vs ss
        was = g.log (omega (arith, marks_length))

        below : i < length ms
        below = omega (arith, marks_length)

        other_number : (xs xs' : List ℕ) (v : ℕ) → xs' ≡ set xs i v → (j : ℕ) → j < i → get_or xs' j 0 ≡ get_or xs j 0
        other_number xs xs' v e j l = ap (λ (x : List ℕ). get_or x j 0) e ∙ get_or-set_other xs i j v 0 (λ z. omega arith)

    module _ (o : Seen) (e : o ≡ watched (meaning base (get_or list i 0)) cur (map_in m w)) where
      does : o ≡ seen_at (meaning base) list st μ i
      does = e ∙ rw (g.here, g.map) refl

      pub Going-on : (y : State) → y ≡ step advance o.st → o.next ≡ on → Going (i + 1) y o.map ms' vs' ss'
      unfolding point_at
      Going-on y a x =
          rw (add-one i)
          (record {
            here = a ∙ ap (λ (z : Seen). step advance z.st) does;
            map = ap (λ (z : Seen). z.map) does;
            reached = Reached-on (meaning base) list st μ i h (ap (λ (z : Seen). z.next) (sym does) ∙ x) g.reached;
            log = logs;
            same = rw (← add-one i) (watch-on (meaning base) list i h cur (map_in m w) o e y a x) ∙ g.same;
            values_size = ap length n.value ∙ simp length-set (g.values_size ∙ sym marks_length);
            skips_size = ap length n.skip ∙ simp length-set (g.skips_size ∙ sym marks_length);
          })

      pub going_last : o.next ≡ last → (ended_with o.st o.map (i + 1) branched ≡ watch (meaning base) list 0 st μ) × Logged base list st μ (i + 1) ms' vs' ss'
      going_last x = (
        watch-last (meaning base) list i h cur (map_in m w) o e x ∙ g.same,
        rw (add-one i) (record { ran = Reached-last (meaning base) list st μ i h (ap (λ (z : Seen). z.next) (sym does) ∙ x) g.reached; log = logs }),
      )

      -- a word that is not counted is logged, but plays no part
      pub going_halt : (s : Stop) → o.next ≡ halt s → (ended_with o.st o.map i s ≡ watch (meaning base) list 0 st μ) × Logged base list st μ i ms' vs' ss'
      going_halt s x = (
        watch-halt (meaning base) list i h cur (map_in m w) o e s x ∙ g.same,
        record {
          ran = Reached-halt (meaning base) list st μ i s h (ap (λ (z : Seen). z.next) (sym does) ∙ x) g.reached;
          log = λ z. record { marks = λ j l. (logs z).marks j (omega arith); value = λ j l. (logs z).value j (omega arith); skip = λ j l. (logs z).skip j (omega arith) };
        },
      )

  pub Going-end : (i : ℕ) (cur : State) (ν : Map) (ms vs : List ℕ) (ss : List Bool) → length list ≤ i → Going i cur ν ms vs ss
      → (ended_with cur ν i finished ≡ watch (meaning base) list 0 st μ) × Logged base list st μ i ms vs ss
  Going-end i cur ν ms vs ss h g = (
    watch_end (meaning base) list i cur ν h ∙ g.same,
    record { ran = Reached-end (meaning base) list st μ i h g.reached; log = g.log },
  )
