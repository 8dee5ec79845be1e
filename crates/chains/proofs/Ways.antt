-- Ways through lists of steps: put together, taken apart, counted, and found by walking back.
use Prim.Native.Nat.{ℕ, zero, suc, ◌≤◌}
use native.Mathlib.Omega.{arith}
use mathlib.Core.Path.{◌≡◌, refl, ap, ◌∙◌, subst}
use mathlib.Core.List.{List, [], ◌∷◌, ◌++◌}
use mathlib.Core.Bool.{false}
use lib.ListN.{length}
use Rattle.machine.specs.Place.{Place}
use Rattle.meaning.specs.Map.{Map, known}
use Rattle.meaning.specs.Step.{Step, Act, step_marks, after_marks, act_marks}
use Rattle.chains.specs.Steps.{Event, family, steps_of, events_at, marks_after}
use Rattle.chains.specs.Chain.{Pair, Through, ends, keeps, links}
use Rattle.chains.specs.Origin.{Mapped, Present, ReadsPresent}
use Rattle.chains.proofs.Marks.{Mapped-all, kept, Came, stayed, read, back}

-- ---- one way after another

pub join : {es fs : List Event} {μ : Map} {p r q : Place} {ls ks : List Pair}
    → Through es μ p ls r → Through fs (marks_after es μ) r ks q → Through (es ++ fs) μ p (ls ++ ks) q
unfolding marks_after
join ends d = d
join (keeps n c) d = keeps n (join c d)
join (links a u c) d = links a u (join c d)

-- the steps of a word stand before those of the next
pub events_append : (i : ℕ) (xs : List Step) (es : List Event) → events_at i xs es ≡ events_at i xs [] ++ es
events_append i [] es = refl
events_append i (x ∷ xs) es = ap (λ (l : List Event). record { index = i; step = x } ∷ l) (events_append i xs es)

pub join_at : (i : ℕ) (xs : List Step) {es : List Event} {μ : Map} {p r q : Place} {ls ks : List Pair}
    → Through (events_at i xs []) μ p ls r → Through es (marks_after (events_at i xs []) μ) r ks q → Through (events_at i xs es) μ p (ls ++ ks) q
join_at i xs {es} c d = rw (events_append i xs es) (join c d)

-- ---- and taken apart there

pub record Parts (es fs : List Event) (μ : Map) (p : Place) (ls : List Pair) (q : Place) : Type 0 where
  pub middle : Place
  pub front : List Pair
  pub rear : List Pair
  pub whole : ls ≡ front ++ rear
  pub through : Through es μ p front middle
  pub onward : Through fs (marks_after es μ) middle rear q

pub part : (es fs : List Event) {μ : Map} {p q : Place} {ls : List Pair} → Through (es ++ fs) μ p ls q → Parts es fs μ p ls q
unfolding marks_after
part [] fs c = record { middle = _; front = []; rear = _; whole = refl; through = ends; onward = c }
part (e ∷ es) fs (keeps n c) =
    let h = part es fs c in
    record { middle = h.middle; front = h.front; rear = h.rear; whole = h.whole; through = keeps n h.through; onward = h.onward }
part (e ∷ es) fs (links {r = r} a u c) =
    let h = part es fs c in
    record {
      middle = h.middle;
      front = record { index = e.index; place = r } ∷ h.front;
      rear = h.rear;
      whole = ap (λ (l : List Pair). record { index = e.index; place = r } ∷ l) h.whole;
      through = links a u h.through;
      onward = h.onward;
    }

pub part_at : (i : ℕ) (xs : List Step) (es : List Event) {μ : Map} {p q : Place} {ls : List Pair}
    → Through (events_at i xs es) μ p ls q → Parts (events_at i xs []) es μ p ls q
part_at i xs es {μ} {p} {q} {ls} c = part (events_at i xs []) es (subst (λ (l : List Event). Through l μ p ls q) (events_append i xs es) c)

-- ---- at most one link for each step

pub links_within : {es : List Event} {μ : Map} {p q : Place} {ls : List Pair} → Through es μ p ls q → length ls ≤ length es
links_within ends = omega arith
links_within (keeps n c) = let h = links_within c in omega arith
links_within (links a u c) = let h = links_within c in omega arith

-- ---- the end of a way that begins at an unknown place is unknown

pub ends_unknown : {es : List Event} {μ : Map} {p q : Place} {ls : List Pair} → Through es μ p ls q → known μ p ≡ false → known (marks_after es μ) q ≡ false
unfolding marks_after
ends_unknown ends u = u
ends_unknown (keeps {e = e} {μ = μ} {p = p} n c) u = ends_unknown c (kept μ e.step μ p n ∙ u)
ends_unknown (links a v c) u = ends_unknown c v

-- ---- walking back

pub record Found (es : List Event) (μ : Map) (q : Place) : Type 0 where
  pub first : Place
  pub pairs : List Pair
  pub through : Through es μ first pairs q
  pub unknown : known μ first ≡ false
  pub present : Present first

-- every step of a list reads places that are there
abbrev pub AllPresent : List Event → Type 0
AllPresent [] = Unit {0}
AllPresent (e ∷ es) = ReadsPresent e.step × AllPresent es

-- a step before others: from the place that they were reached from
pub earlier : (e : Event) {es : List Event} {μ : Map} {q : Place} → ReadsPresent e.step → (f : Found es (step_marks e.step μ) q) → Came e.step μ f.first → Found (e ∷ es) μ q
earlier e s f (stayed n u) = record { first = f.first; pairs = f.pairs; through = keeps n f.through; unknown = u; present = f.present }
earlier e s f (read p a u) =
    record {
      first = p;
      pairs = record { index = e.index; place = f.first } ∷ f.pairs;
      through = links a f.unknown f.through;
      unknown = u;
      present = s p f.first a;
    }

pub found : (es : List Event) → AllPresent es → (μ : Map) → Mapped μ → (q : Place) → Present q → known (marks_after es μ) q ≡ false → Found es μ q
unfolding marks_after
found [] s μ m q h u = record { first = q; pairs = []; through = ends; unknown = u; present = h }
found (e ∷ es) s μ m q h u =
    let f = found es s.1 (step_marks e.step μ) (Mapped-all μ e.step μ m) q h u in
    earlier e s.0 f (back e.step μ m f.first f.present f.unknown)

-- ---- the map after the steps of an act is that of the act

family_marks : (i n : ℕ) (each : ℕ → Step) (more : List Step) (es : List Event) (μ : Map)
    → marks_after (events_at i (family n each more) es) μ ≡ marks_after (events_at i more es) (after_marks n each μ)
unfolding marks_after family after_marks
family_marks i zero each more es μ = refl
family_marks i (suc n) each more es μ = family_marks i n each (each n ∷ more) es μ

pub act_marks_lem : (i : ℕ) (a : Act) (es : List Event) (μ : Map) → marks_after (events_at i (steps_of a) es) μ ≡ marks_after es (act_marks a μ)
unfolding marks_after
act_marks_lem i a es μ = family_marks i a.count a.each (a.tail ∷ []) es μ
