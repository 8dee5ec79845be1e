-- The laws by which the code's proofs walk back through one word.
use Prim.Native.Nat.{ℕ, zero, suc, ◌+◌, ◌-◌, ◌≤◌, ◌<◌}
use native.Mathlib.Omega.{arith}
use mathlib.Core.Path.{◌≡◌, refl, ap, sym, ◌∙◌, subst}
use mathlib.Core.Logic.{inl}
use mathlib.Core.List.{List, [], ◌∷◌}
use mathlib.Core.Bool.{Bool, true, false, cond}
use Rattle.machine.specs.Place.{Place, State, get, number}
use Rattle.meaning.specs.Map.{Map, known}
use Rattle.meaning.specs.Step.{Step, Act, all_known, step_marks, after_marks, act_marks, once, nothing}
use Rattle.meaning.specs.Stop.{hangs}
use Rattle.meaning.specs.Tree.{Tree, stop, go, branch, ask, Next, on, last, halt, seen, watched}
use Rattle.chains.specs.Steps.{family, steps_of, word_steps, act_of, events_at}
use Rattle.chains.specs.Chain.{Among, writes, reads, Pair, Through, ends, keeps, links, Way}
use Rattle.chains.specs.Origin.{Mapped, Present}
use Rattle.chains.proofs.Marks.{Mapped-all, kept, written}

-- ---- a word of one step, or of none

module _ (i : ℕ) (x : Step) (μ : Map) where
  pub once_kept : (q : Place) → writes x q ≡ false → known (step_marks x μ) q ≡ false → Way i (once x) μ q [] q
  unfolding family
  once_kept q n u = record { unknown = sym (kept μ x μ q n) ∙ u; through = keeps n (keeps refl ends) }

  pub once_from : (p q : Place) → Among p (reads x q) → known μ p ≡ false → known (step_marks x μ) q ≡ false
      → Way i (once x) μ p (record { index = i; place = q } ∷ []) q
  unfolding family
  once_from p q a v u = record { unknown = v; through = links a u (keeps refl ends) }

pub once_marks : (x : Step) (μ : Map) → act_marks (once x) μ ≡ step_marks x μ
unfolding after_marks
once_marks x μ = refl

pub nothing-Way : (i : ℕ) (μ : Map) (q : Place) → known μ q ≡ false → Way i nothing μ q [] q
unfolding family
nothing-Way i μ q u = record { unknown = u; through = keeps refl ends }

pub nothing_marks : (μ : Map) → act_marks nothing μ ≡ μ
unfolding after_marks
nothing_marks μ = refl

-- ---- the steps of a family, from the last to the first

-- j of them are left, from p on; the rest were walked
pub record Walk (i : ℕ) (a : Act) (μ : Map) (j : ℕ) (p : Place) (ps : List Pair) (q : Place) : Type 0 where
  pub rest : List Step
  pub whole : family j a.each rest ≡ steps_of a
  pub unknown : known (after_marks j a.each μ) p ≡ false
  pub through : Through (events_at i rest []) (after_marks j a.each μ) p ps q

module _ (i : ℕ) (a : Act) (μ : Map) (q : Place) where
  -- at the end, where the tail does not write the place
  pub Walk-end : writes a.tail q ≡ false → known (act_marks a μ) q ≡ false → Walk i a μ a.count q [] q
  Walk-end n u =
      record { rest = a.tail ∷ []; whole = refl; unknown = sym (kept _ a.tail _ q n) ∙ u; through = keeps n ends }

  module _ (j : ℕ) (p : Place) (ps : List Pair) where
    pub Walk-kept : writes (a.each j) p ≡ false → Walk i a μ (suc j) p ps q → Walk i a μ j p ps q
    unfolding family after_marks
    Walk-kept n h =
        record {
          rest = a.each j ∷ h.rest;
          whole = h.whole;
          unknown = sym (kept (after_marks j a.each μ) (a.each j) (after_marks j a.each μ) p n) ∙ h.unknown;
          through = keeps n h.through;
        }

    pub Walk-from : (r : Place) → Among r (reads (a.each j) p) → known (after_marks j a.each μ) r ≡ false → Walk i a μ (suc j) p ps q
        → Walk i a μ j r (record { index = i; place = p } ∷ ps) q
    unfolding family after_marks
    Walk-from r m u h = record { rest = a.each j ∷ h.rest; whole = h.whole; unknown = u; through = links m h.unknown h.through }

  pub Walk-Way : (p : Place) (ps : List Pair) → Walk i a μ 0 p ps q → Way i a μ p ps q
  unfolding family after_marks
  Walk-Way p ps h = record { unknown = h.unknown; through = subst (λ (l : List Step). Through (events_at i l []) μ p ps q) h.whole h.through }

  -- steps that do not write the place, down to the j-th
  pub Walk-past : (n j : ℕ) (p : Place) (ps : List Pair) → ((t : ℕ) → j ≤ t → t < j + n → writes (a.each t) p ≡ false) → Walk i a μ (j + n) p ps q → Walk i a μ j p ps q
  Walk-past zero j p ps f h = subst (λ (k : ℕ). Walk i a μ k p ps q) (omega arith) h
  Walk-past (suc n) j p ps f h =
      Walk-past n j p ps (λ t l m. f t l (omega arith))
      (Walk-kept (j + n) p ps (f (j + n) (omega arith) (omega arith)) (subst (λ (k : ℕ). Walk i a μ k p ps q) (omega arith) h))

-- ---- the act of a word that is counted

abbrev Acts : Next → List Step → Map → Act → Map → Type 0
Acts on xs ν a μ = (xs ≡ steps_of a) × (ν ≡ act_marks a μ)
Acts last xs ν a μ = (xs ≡ steps_of a) × (ν ≡ act_marks a μ)
Acts (halt s) xs ν a μ = Unit {0}

acts : (t : Tree) (st : State) (μ : Map) → Acts (watched t st μ).next (word_steps t st μ) (watched t st μ).map (act_of t st) μ
unfolding watched word_steps act_of
acts (stop s) st μ = tt
acts (go a) st μ = (refl, refl)
acts (branch a) st μ = (refl, refl)
acts (ask p k) st μ = by (acts (k (get st p)) st μ) (known μ p)
  where
    by : Acts (watched (k (get st p)) st μ).next (word_steps (k (get st p)) st μ) (watched (k (get st p)) st μ).map (act_of (k (get st p)) st) μ → (b : Bool)
        → Acts (cond b (watched (k (get st p)) st μ) (seen st μ (halt (hangs (number p))))).next (cond b (word_steps (k (get st p)) st μ) [])
        (cond b (watched (k (get st p)) st μ) (seen st μ (halt (hangs (number p))))).map (act_of (k (get st p)) st) μ
    by ih true = ih
    by ih false = tt

module _ (t : Tree) (st : State) (μ : Map) where
  pub acts_on : (watched t st μ).next ≡ on → (word_steps t st μ ≡ steps_of (act_of t st)) × ((watched t st μ).map ≡ act_marks (act_of t st) μ)
  acts_on e = rw e at (acts t st μ)

  pub acts_last : (watched t st μ).next ≡ last → (word_steps t st μ ≡ steps_of (act_of t st)) × ((watched t st μ).map ≡ act_marks (act_of t st) μ)
  acts_last e = rw e at (acts t st μ)

-- ---- a family whose step t is the last to write the place

pub Mapped-after : (n : ℕ) (each : ℕ → Step) (μ : Map) → Mapped μ → Mapped (after_marks n each μ)
unfolding after_marks
Mapped-after zero each μ m = m
Mapped-after (suc n) each μ m = Mapped-all _ (each n) _ (Mapped-after n each μ m)

module _ (i : ℕ) (a : Act) (μ : Map) (q : Place) (n : writes a.tail q ≡ false) (u : known (act_marks a μ) q ≡ false) where
  pub no_link : ((t : ℕ) → t < a.count → writes (a.each t) q ≡ false) → Way i a μ q [] q
  no_link f = Walk-Way i a μ q q [] (Walk-past i a μ q a.count 0 q [] (λ t z l. f t (omega arith)) (subst (λ (k : ℕ). Walk i a μ k q [] q) (omega arith) (Walk-end i a μ q n u)))

  -- and reads p alone, which no step before it writes
  pub last_link : Mapped μ → Present q → (p : Place) (t : ℕ) → t < a.count → writes (a.each t) q ≡ true → reads (a.each t) q ≡ p ∷ []
      → ((s : ℕ) → t < s → s < a.count → writes (a.each s) q ≡ false) → ((s : ℕ) → s < t → writes (a.each s) p ≡ false)
      → Way i a μ p (record { index = i; place = q } ∷ []) q
  unfolding after_marks
  last_link m h p t l w r later earlier =
      let e : a.count ≡ suc t + (a.count - suc t) = omega arith in
      let x : Walk i a μ (suc t) q [] q =
      Walk-past i a μ q (a.count - suc t) (suc t) q [] (λ s g b. later s g (omega arith)) (subst (λ (k : ℕ). Walk i a μ k q [] q) e (Walk-end i a μ q n u)) in
      let v : known (after_marks t a.each μ) p ≡ false =
      ap (all_known (after_marks t a.each μ)) (sym r)
      ∙ written (after_marks t a.each μ) (a.each t) (after_marks t a.each μ) (Mapped-after t a.each μ m) q h w x.unknown in
      let y : Walk i a μ t p (record { index = i; place = q } ∷ []) q = Walk-from i a μ q t q [] p (subst (Among p) (sym r) (inl refl)) v x in
      Walk-Way i a μ q p _ (Walk-past i a μ q t 0 p _ (λ s g b. earlier s (omega arith)) (subst (λ (k : ℕ). Walk i a μ k p (record { index = i; place = q } ∷ []) q) (omega arith) y))

-- a place that no step of a family writes keeps its mark
pub after_kept : (n : ℕ) (each : ℕ → Step) (μ : Map) (q : Place) → ((t : ℕ) → t < n → writes (each t) q ≡ false) → known (after_marks n each μ) q ≡ known μ q
unfolding after_marks
after_kept zero each μ q f = refl
after_kept (suc n) each μ q f =
    kept (after_marks n each μ) (each n) (after_marks n each μ) q (f n (omega arith)) ∙ after_kept n each μ q (λ t l. f t (omega arith))
