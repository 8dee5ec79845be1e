-- One step back by what a step writes and reads.
use Prim.Native.Nat.{ℕ, ◌+◌, ◌-◌, ◌≤◌, ◌<◌}
use native.Mathlib.Omega.{arith}
use native.Mathlib.Decide.{dec_lt}
use mathlib.Core.Path.{◌≡◌, refl, ap, sym, ◌∙◌, subst}
use mathlib.Core.Bool.{Bool, true, false, false≢true}
use mathlib.Core.List.{List, [], ◌∷◌}
use borrow.Author.Tests.{eq-eqb}
use Rattle.machine.specs.Place.{Place, single, core, word, flags, control, exc, nzcv, exceptions, before, place, number}
use Rattle.machine.proofs.Numbers.{number-place}
use Rattle.meaning.specs.Map.{Map, known}
use Rattle.meaning.specs.Step.{Write, Step, all_known, step_marks, once, nothing}
use Rattle.chains.specs.Chain.{same, writes, reads, Among}
use Rattle.chains.specs.Origin.{Mapped, Present}
use Rattle.chains.proofs.Marks as Marks
use Rattle.chains.proofs.Laws.{once_kept, once_from, once_marks, nothing-Way, nothing_marks}
use Rattle.place_marks.specs.Word.{map_in}
use Rattle.place_marks.proofs.Word.{singles_marked, cores_marked}
use Rattle.place_marks.proofs.Places.{place-single, place-core, place-word, place-flags, place-control, place-exc, place-nzcv, place-exceptions, by_number}
use Rattle.sources.specs.declared.Source.{Source}
use Rattle.sources.specs.declared.Source.TheVariants.{Kept, From}
use Rattle.sources.specs.Source.{Picks, Tracing, Leading}
use Rattle.sources.specs.Rule.{Outside, Rule, Copying}
use Rattle.sources.proofs.Picking.{Tells, pick_on, pick_first, pick_last}

-- ---- places by number

pub Present-place : (n : ℕ) → Present (place n)
Present-place n = by (dec_lt n before)
  where
    by : Dec (n < before) → Present (place n)
    by (yes h) =
        by_number (λ k. Present (place k)) (λ k l. rw (place-single k l) l) (λ k l. rw (place-core k l) l) (rw place-flags tt) (rw place-control tt) (rw place-exc tt)
        (rw place-nzcv tt) (rw place-exceptions tt) n h
    by (no h) = let e : before + (n - before) ≡ n = omega (arith, h) in subst (λ (k : ℕ). Present (place k)) e (rw (place-word (n - before)) tt)

-- a place that is there has its number
pub place-number : (p : Place) → Present p → place (number p) ≡ p
place-number (single n) h = place-single n h
place-number (core n) h = place-core n h
place-number (word n) h = place-word n
place-number flags h = place-flags
place-number control h = place-control
place-number exc h = place-exc
place-number nzcv h = place-nzcv
place-number exceptions h = place-exceptions

same_itself : (p : Place) → same p p ≡ true
same_itself (single n) = eq-eqb n n refl
same_itself (core n) = eq-eqb n n refl
same_itself (word n) = eq-eqb n n refl
same_itself flags = refl
same_itself control = refl
same_itself exc = refl
same_itself nzcv = refl
same_itself exceptions = refl

module _ (p : Place) (h : Present p) (q : ℕ) where
  pub same_at : q ≡ number p → same p (place q) ≡ true
  same_at e = ap (λ (n : ℕ). same p (place n)) e ∙ ap (same p) (place-number p h) ∙ same_itself p

  pub other_at : (q ≡ number p → ⊥) → same p (place q) ≡ false
  other_at n = by (same p (place q)) refl
    where
      by : (b : Bool) → same p (place q) ≡ b → b ≡ false
      by true e = absurd (n (sym (number-place q) ∙ ap number (sym (Marks.same_place p (place q) e))))
      by false e = refl

pub Mapped-in : (m : ℕ) (w : List ℕ) → Mapped (map_in m w)
Mapped-in m w = record { s = singles_marked m w; r = cores_marked m w }

-- a step of one write
module _ (w : Write) (h : Present w.target) (q : ℕ) where
  pub sole_target : q ≡ number w.target → (writes (w ∷ []) (place q) ≡ true) × (reads (w ∷ []) (place q) ≡ w.sources)
  sole_target e = let g = same_at w.target h q e in (rw g refl, rw g refl)

  pub sole_other : (q ≡ number w.target → ⊥) → writes (w ∷ []) (place q) ≡ false
  sole_other n = rw (other_at w.target h q n) refl

-- ---- one step back

module _ (x : Step) (m q : ℕ) where
  -- a place that is written has an unknown source
  source : writes x (place q) ≡ true → (s : List Place) → reads x (place q) ≡ s → (w : List ℕ) → known (step_marks x (map_in m w)) (place q) ≡ false
      → all_known (map_in m w) s ≡ false
  source y s e w u =
      ap (all_known (map_in m w)) (sym e) ∙ Marks.written (map_in m w) x (map_in m w) (Mapped-in m w) (place q) (Present-place q) y u

  pub from_picked : (s : List Place) (p : ℕ) → (writes x (place q) ≡ true) × (reads x (place q) ≡ s) → Picks m s p → Tracing x m q (From p)
  from_picked s p g f w u =
      let o = f w (source g.0 s g.1 w u) in
      (subst (Among (place p)) (sym g.1) o.0, o.1)

  -- what is written from nothing is known
  pub from_nothing : (r : Source) → (writes x (place q) ≡ true) × (reads x (place q) ≡ []) → Tracing x m q r
  from_nothing r g w u = absurd (false≢true (sym (source g.0 [] g.1 w u)))

  -- one source alone is not looked at
  pub from_only : (p : ℕ) → (writes x (place q) ≡ true) × (reads x (place q) ≡ place p ∷ []) → Tracing x m q (From p)
  from_only p g = from_picked (place p ∷ []) p g (λ w. pick_last (map_in m w) (place p))

  module _ (first words : ℕ) (s t : List Place) (r : Rule x first words s t) where
    pub rule_target : (p : ℕ) → first ≤ q → q < first + words → Picks m s p → Tracing x m q (From p)
    rule_target p a b f = from_picked s p (r.target q a b) f

    pub rule_other : Outside first words q → (q ≡ number exceptions → ⊥) → Tracing x m q Kept
    rule_other o n w u = r.other q o n

    raised_at : q ≡ number exceptions → (writes x (place q) ≡ true) × (reads x (place q) ≡ exceptions ∷ t)
    raised_at e = rw (e, place-exceptions) r.raised

    pub rule_raised : (p : ℕ) → q ≡ number exceptions → (b : Bool) → Tells m (number exceptions) b → b ≡ true → Picks m t p → Tracing x m q (From p)
    rule_raised p e b h g f =
        from_picked (exceptions ∷ t) p (raised_at e)
        (λ w. pick_on (map_in m w) exceptions t (place p) (ap (known (map_in m w)) (sym place-exceptions) ∙ sym (h w) ∙ g) (f w))

    pub rule_itself : q ≡ number exceptions → (b : Bool) → Tells m (number exceptions) b → b ≡ false → Tracing x m q (From (number exceptions))
    rule_itself e b h g =
        from_picked (exceptions ∷ t) (number exceptions) (raised_at e)
        (λ w z.
        subst (λ (p : Place). Among p (exceptions ∷ t) × (known (map_in m w) p ≡ false)) (sym place-exceptions)
        (pick_first (map_in m w) exceptions t (ap (known (map_in m w)) (sym place-exceptions) ∙ sym (h w) ∙ g)))

  module _ (first words from : ℕ) (r : Copying x first words from) where
    pub copy_target : first ≤ q → q < first + words → Tracing x m q (From (from + (q - first)))
    copy_target a b = from_only (from + (q - first)) (r.target q a b)

    pub copy_other : Outside first words q → Tracing x m q Kept
    copy_other o w u = r.other q o

-- the registers by the word's fields
pub as_fields : (P : ℕ → ℕ → Type 0) {d d' m m' : ℕ} → d ≡ d' → m ≡ m' → P d m → P d' m'
as_fields P e g p = rw (← e, ← g) p

pub as_field : (P : ℕ → Type 0) {d d' : ℕ} → d ≡ d' → P d → P d'
as_field P e p = rw (← e) p

-- and by the precision that was tested
pub as_tested : (P : Bool → Type 0) {b t : Bool} → b ≡ t → P t → P b
as_tested P e p = rw e p

-- ---- a word of one step, or of none

pub once-Leading : (x : Step) (m q : ℕ) (r : Source) → Tracing x m q r → Leading (once x) m q r
once-Leading x m q Kept f w u = let v = ap (λ (ν : Map). known ν (place q)) (sym (once_marks x (map_in m w))) ∙ u in λ i. once_kept i x (map_in m w) (place q) (f w v) v
once-Leading x m q (From p) f w u =
    let v = ap (λ (ν : Map). known ν (place q)) (sym (once_marks x (map_in m w))) ∙ u in
    λ i. once_from i x (map_in m w) (place p) (place q) (f w v).0 (f w v).1 v

pub nothing-Leading : (m q : ℕ) → Leading nothing m q Kept
nothing-Leading m q w u i = nothing-Way i (map_in m w) (place q) (ap (λ (ν : Map). known ν (place q)) (sym (nothing_marks (map_in m w))) ∙ u)
