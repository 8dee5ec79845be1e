-- How many links a way through an act has at most: one for each of its steps; and one alone, where no step reads what another wrote.
use Prim.Native.Nat.{ℕ, zero, suc, ◌+◌, ◌≤◌}
use native.Mathlib.Omega.{arith}
use mathlib.Core.Path.{◌≡◌, refl, sym, ◌∙◌}
use mathlib.Core.List.{List, [], ◌∷◌}
use mathlib.Core.Bool.{Bool, true, false, cond, ◌||◌, false≢true}
use lib.ListN.{length}
use Rattle.machine.specs.Place.{Place}
use Rattle.meaning.specs.Map.{Map}
use Rattle.meaning.specs.Step.{Step}
use Rattle.chains.specs.Steps.{Event, family, events_at}
use Rattle.chains.specs.Chain.{same, writes, reads, Among, Pair, Through, keeps, links}
use Rattle.chains.specs.Origin.{Within}
use Rattle.chains.proofs.Ways.{links_within}

-- ---- one for each step

abbrev Most : ℕ → List Event → Type 0
Most k es = (μ : Map) (p q : Place) (ps : List Pair) → Through es μ p ps q → length ps ≤ k

one_more : (k : ℕ) (e : Event) (es : List Event) → Most k es → Most (suc k) (e ∷ es)
one_more k e es h μ p q ps c = by c (λ ν r. h ν r q)
  where
    by : {ps : List Pair} → Through (e ∷ es) μ p ps q → ((ν : Map) (r : Place) (ps : List Pair) → Through es ν r ps q → length ps ≤ k) → length ps ≤ suc k
    by (keeps n d) f = let z = f _ _ _ d in omega arith
    by (links a u d) f = let z = f _ _ _ d in omega arith

family-Most : (i n : ℕ) (each : ℕ → Step) (more : List Step) (k : ℕ) → Most k (events_at i more []) → Most (n + k) (events_at i (family n each more) [])
unfolding family
family-Most i zero each more k h = λ μ p q ps c. let z = h μ p q ps c in omega arith
family-Most i (suc n) each more k h = λ μ p q ps c. let z = family-Most i n each (each n ∷ more) (suc k) (one_more k _ _ h) μ p q ps c in omega arith

-- nothing is read by no write
no_step : (i : ℕ) → Most 0 (events_at i ([] ∷ []) [])
no_step i μ p q ps (keeps n c) = links_within c
no_step i μ p q ps (links a u c) = absurd a

pub steps_Within : (n k : ℕ) (each : ℕ → Step) → n ≤ k → Within k (record { count = n; each = each; tail = [] })
steps_Within n k each h i μ p q ps c = let z = family-Most i n each ([] ∷ []) 0 (no_step i) μ p q ps c in omega arith

-- ---- one alone: κ tells the places that the steps of the family write from those that steps read

pub read_written : (x : Step) (p r : Place) → Among p (reads x r) → writes x r ≡ true
read_written [] p r a = absurd a
read_written (w ∷ ws) p r a = by (writes ws r) (same w.target r) a
  where
    by : (b c : Bool) → Among p (cond b (reads ws r) (cond c w.sources [])) → (b || c) ≡ true
    by true c z = refl
    by false true z = refl
    by false false z = absurd z

module _ (κ : Place → Bool) where
  abbrev Reads : Step → Type 0
  Reads x = (p r : Place) → Among p (reads x r) → κ p ≡ false

  abbrev Writes : Step → Type 0
  Writes x = (r : Place) → writes x r ≡ true → κ r ≡ true

  -- at most one link, and none from a place that the family writes
  record Single (es : List Event) : Type 0 where
    one : Most 1 es
    none : (μ : Map) (p q : Place) (ps : List Pair) → κ p ≡ true → Through es μ p ps q → length ps ≤ 0

  none_on : (e : Event) (es : List Event) → Reads e.step → ((μ : Map) (p q : Place) (ps : List Pair) → κ p ≡ true → Through es μ p ps q → length ps ≤ 0)
      → (μ : Map) (p q : Place) (ps : List Pair) → κ p ≡ true → Through (e ∷ es) μ p ps q → length ps ≤ 0
  none_on e es r f μ p q ps y c = by c
    where
      by : {ps : List Pair} → Through (e ∷ es) μ p ps q → length ps ≤ 0
      by (keeps n d) = f _ p q _ y d
      by (links {r = z} a u d) = absurd (false≢true (sym (r p z a) ∙ y))

  one_on : (e : Event) (es : List Event) → Writes e.step → Single es → Most 1 (e ∷ es)
  one_on e es w s μ p q ps c = by c
    where
      by : {ps : List Pair} → Through (e ∷ es) μ p ps q → length ps ≤ 1
      by (keeps n d) = s.one _ p q _ d
      by (links {r = z} a u d) = let m = s.none _ z q _ (w z (read_written e.step p z a)) d in omega arith

  family-Single : (i n : ℕ) (each : ℕ → Step) → ((j : ℕ) → Reads (each j)) → ((j : ℕ) → Writes (each j)) → (more : List Step) → Single (events_at i more [])
      → Single (events_at i (family n each more) [])
  unfolding family
  family-Single i zero each r w more s = s
  family-Single i (suc n) each r w more s =
      family-Single i n each r w (each n ∷ more) (record { one = one_on _ _ (w n) s; none = none_on _ _ (r n) s.none })

  pub apart_Within : (k n : ℕ) (each : ℕ → Step) (tail : Step) → 1 ≤ k → ((j : ℕ) → Reads (each j)) → ((j : ℕ) → Writes (each j)) → Reads tail
      → Within k (record { count = n; each = each; tail = tail })
  apart_Within k n each tail h r w t i μ p q ps c =
      let s : Single (events_at i (tail ∷ []) []) = record { one = λ ν a b l d. links_within d; none = none_on _ _ t (λ ν a b l y d. links_within d) } in
      let z = (family-Single i n each r w (tail ∷ []) s).one μ p q ps c in
      omega arith
