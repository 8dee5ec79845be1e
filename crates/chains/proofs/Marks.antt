-- What a step leaves of a place, and one step back from an unknown place.
use Prim.Native.Nat.{ℕ, zero, suc}
use native.Mathlib.Omega.{arith}
use mathlib.Core.Path.{◌≡◌, refl, ap, sym, ◌∙◌, subst}
use mathlib.Core.Logic.{inl, inr}
use mathlib.Core.List.{List, [], ◌∷◌}
use mathlib.Core.Bool.{Bool, true, false, cond, ◌&&◌, ◌||◌, false≢true}
use lib.ListN.{get_or, set, length-set}
use lib.Dec.{T, eqb, eqb→eq}
use lib.Seq.{get_or-set_same, get_or-set_other}
use borrow.Author.Tests.{eq-eqb}
use Rattle.bits.specs.Psr.{one_of}
use Rattle.machine.specs.Place.{Place, single, core, word, flags, control, exc, nzcv, exceptions}
use Rattle.meaning.specs.Map.{Map, known, mark}
use Rattle.meaning.specs.Step.{Step, all_known, mark_all, step_marks}
use Rattle.chains.specs.Chain.{kind, ordinal, same, writes, reads, Among}
use Rattle.chains.specs.Origin.{Mapped, Present}

-- ---- one mark

eqb-eq : (m n : ℕ) → eqb m n ≡ true → m ≡ n
eqb-eq m n e = eqb→eq m n (subst T (sym e) tt)

and_l : (x y : Bool) → (x && y) ≡ true → x ≡ true
and_l true y h = refl
and_l false y h = h

and_r : (x y : Bool) → (x && y) ≡ true → y ≡ true
and_r true y h = h
and_r false y h = absurd (false≢true h)

module _ {M : Type 0} (d : M) (l : List M) (i j : ℕ) (t : M) where
  elsewhere : eqb i j ≡ false → get_or (set l i t) j d ≡ get_or l j d
  elsewhere e = get_or-set_other l i j t d (λ g. false≢true (sym e ∙ eq-eqb i j (sym g)))

-- a mark elsewhere changes nothing
pub mark_other : (μ : Map) (p : Place) (t : Bool) (q : Place) → same p q ≡ false → known (mark μ p t) q ≡ known μ q
mark_other μ (single i) t (single j) e = elsewhere false μ.marks.s i j t e
mark_other μ (single i) t (core j) e = refl
mark_other μ (single i) t (word j) e = refl
mark_other μ (single i) t flags e = refl
mark_other μ (single i) t control e = refl
mark_other μ (single i) t exc e = refl
mark_other μ (single i) t nzcv e = refl
mark_other μ (single i) t exceptions e = refl
mark_other μ (core i) t (single j) e = refl
mark_other μ (core i) t (core j) e = elsewhere false μ.marks.r i j t e
mark_other μ (core i) t (word j) e = refl
mark_other μ (core i) t flags e = refl
mark_other μ (core i) t control e = refl
mark_other μ (core i) t exc e = refl
mark_other μ (core i) t nzcv e = refl
mark_other μ (core i) t exceptions e = refl
mark_other μ (word i) t (single j) e = refl
mark_other μ (word i) t (core j) e = refl
mark_other μ (word i) t (word j) e = ap (λ (x : ℕ). eqb x 1) (elsewhere 1 μ.words i j (one_of t) e)
mark_other μ (word i) t flags e = refl
mark_other μ (word i) t control e = refl
mark_other μ (word i) t exc e = refl
mark_other μ (word i) t nzcv e = refl
mark_other μ (word i) t exceptions e = refl
mark_other μ flags t (single j) e = refl
mark_other μ flags t (core j) e = refl
mark_other μ flags t (word j) e = refl
mark_other μ flags t flags e = absurd (false≢true (sym e))
mark_other μ flags t control e = refl
mark_other μ flags t exc e = refl
mark_other μ flags t nzcv e = refl
mark_other μ flags t exceptions e = refl
mark_other μ control t (single j) e = refl
mark_other μ control t (core j) e = refl
mark_other μ control t (word j) e = refl
mark_other μ control t flags e = refl
mark_other μ control t control e = absurd (false≢true (sym e))
mark_other μ control t exc e = refl
mark_other μ control t nzcv e = refl
mark_other μ control t exceptions e = refl
mark_other μ exc t (single j) e = refl
mark_other μ exc t (core j) e = refl
mark_other μ exc t (word j) e = refl
mark_other μ exc t flags e = refl
mark_other μ exc t control e = refl
mark_other μ exc t exc e = absurd (false≢true (sym e))
mark_other μ exc t nzcv e = refl
mark_other μ exc t exceptions e = refl
mark_other μ nzcv t (single j) e = refl
mark_other μ nzcv t (core j) e = refl
mark_other μ nzcv t (word j) e = refl
mark_other μ nzcv t flags e = refl
mark_other μ nzcv t control e = refl
mark_other μ nzcv t exc e = refl
mark_other μ nzcv t nzcv e = absurd (false≢true (sym e))
mark_other μ nzcv t exceptions e = refl
mark_other μ exceptions t (single j) e = refl
mark_other μ exceptions t (core j) e = refl
mark_other μ exceptions t (word j) e = refl
mark_other μ exceptions t flags e = refl
mark_other μ exceptions t control e = refl
mark_other μ exceptions t exc e = refl
mark_other μ exceptions t nzcv e = refl
mark_other μ exceptions t exceptions e = absurd (false≢true (sym e))

-- past the window's end a word stays known
word_itself : (l : List ℕ) (n : ℕ) (t : Bool) → eqb (get_or (set l n (one_of t)) n 1) 1 ≡ false → t ≡ false
word_itself [] n t e = absurd (false≢true (sym e))
word_itself (x ∷ l) zero true e = absurd (false≢true (sym e))
word_itself (x ∷ l) zero false e = refl
word_itself (x ∷ l) (suc n) t e = word_itself l n t e

-- one that leaves the place itself unknown is the mark of an unknown
pub mark_itself : (μ : Map) → Mapped μ → (q : Place) → Present q → (t : Bool) → known (mark μ q t) q ≡ false → t ≡ false
mark_itself μ m (single n) h t e = sym (get_or-set_same μ.marks.s n t false (omega (arith, m.s))) ∙ e
mark_itself μ m (core n) h t e = sym (get_or-set_same μ.marks.r n t false (omega (arith, m.r))) ∙ e
mark_itself μ m (word n) h t e = word_itself μ.words n t e
mark_itself μ m flags h t e = e
mark_itself μ m control h t e = e
mark_itself μ m exc h t e = e
mark_itself μ m nzcv h t e = e
mark_itself μ m exceptions h t e = e

-- the place of a kind and a number, so that places that are the same are equal
abbrev place_of : ℕ → ℕ → Place
place_of k n = get_or (single n ∷ core n ∷ word n ∷ flags ∷ control ∷ exc ∷ nzcv ∷ exceptions ∷ []) k flags

place_of_lem : (p : Place) → place_of (kind p) (ordinal p) ≡ p
place_of_lem (single n) = refl
place_of_lem (core n) = refl
place_of_lem (word n) = refl
place_of_lem flags = refl
place_of_lem control = refl
place_of_lem exc = refl
place_of_lem nzcv = refl
place_of_lem exceptions = refl

pub same_place : (p q : Place) → same p q ≡ true → p ≡ q
same_place p q e =
    let k = eqb-eq (kind p) (kind q) (and_l (eqb (kind p) (kind q)) (eqb (ordinal p) (ordinal q)) e) in
    let n = eqb-eq (ordinal p) (ordinal q) (and_r (eqb (kind p) (kind q)) (eqb (ordinal p) (ordinal q)) e) in
    sym (place_of_lem p) ∙ (ap (λ (x : ℕ). place_of x (ordinal p)) k ∙ ap (place_of (kind q)) n) ∙ place_of_lem q

pub Mapped-mark : (μ : Map) → Mapped μ → (p : Place) (t : Bool) → Mapped (mark μ p t)
Mapped-mark μ m (single i) t = record { s = simp length-set m.s; r = m.r }
Mapped-mark μ m (core i) t = record { s = m.s; r = simp length-set m.r }
Mapped-mark μ m (word i) t = record { s = m.s; r = m.r }
Mapped-mark μ m flags t = record { s = m.s; r = m.r }
Mapped-mark μ m control t = record { s = m.s; r = m.r }
Mapped-mark μ m exc t = record { s = m.s; r = m.r }
Mapped-mark μ m nzcv t = record { s = m.s; r = m.r }
Mapped-mark μ m exceptions t = record { s = m.s; r = m.r }

-- ---- the marks of a step, which are read in ν

or-false : (x y : Bool) → (x || y) ≡ false → (x ≡ false) × (y ≡ false)
or-false true y h = absurd (false≢true (sym h))
or-false false y h = (refl, h)

module _ (ν : Map) where
  pub Mapped-all : (ws : Step) (μ : Map) → Mapped μ → Mapped (mark_all ν ws μ)
  Mapped-all [] μ m = m
  Mapped-all (w ∷ ws) μ m = Mapped-all ws _ (Mapped-mark μ m w.target (all_known ν w.sources))

  -- a place that is not written keeps its mark
  pub kept : (ws : Step) (μ : Map) (q : Place) → writes ws q ≡ false → known (mark_all ν ws μ) q ≡ known μ q
  kept [] μ q e = refl
  kept (w ∷ ws) μ q e =
      let b = or-false (writes ws q) (same w.target q) e in
      kept ws (mark μ w.target (all_known ν w.sources)) q b.0 ∙ mark_other μ w.target (all_known ν w.sources) q b.1

  -- one that is written and unknown then has an unknown source
  pub written : (ws : Step) (μ : Map) → Mapped μ → (q : Place) → Present q → writes ws q ≡ true → known (mark_all ν ws μ) q ≡ false → all_known ν (reads ws q) ≡ false
  written [] μ m q h y e = absurd (false≢true y)
  written (w ∷ ws) μ m q h y e = by (λ g. written ws _ (Mapped-mark μ m w.target (all_known ν w.sources)) q h g e) (writes ws q) refl (same w.target q) refl y
    where
      by : (writes ws q ≡ true → all_known ν (reads ws q) ≡ false) → (b : Bool) → writes ws q ≡ b → (c : Bool) → same w.target q ≡ c → (b || c) ≡ true
          → all_known ν (cond b (reads ws q) (cond c w.sources [])) ≡ false
      by ih true g c f z = ih g
      by ih false g true f z =
          mark_itself μ m q h (all_known ν w.sources)
          (subst (λ (p : Place). known (mark μ p (all_known ν w.sources)) q ≡ false) (same_place w.target q f)
          (sym (kept ws (mark μ w.target (all_known ν w.sources)) q g) ∙ e))
      by ih false g false f z = absurd (false≢true z)

-- ---- one step back

-- an unknown one among places that are not all known
pub record Unknown (μ : Map) (ps : List Place) : Type 0 where
  pub at : Place
  pub among : Among at ps
  pub unknown : known μ at ≡ false

and-true : (x : Bool) → (x && true) ≡ false → x ≡ false
and-true true e = e
and-true false e = refl

some_Unknown : (μ : Map) (ps : List Place) → all_known μ ps ≡ false → Unknown μ ps
some_Unknown μ [] h = absurd (false≢true (sym h))
some_Unknown μ (p ∷ ps) h = by (λ g. some_Unknown μ ps g) (known μ p) refl
  where
    by : (all_known μ ps ≡ false → Unknown μ ps) → (b : Bool) → known μ p ≡ b → Unknown μ (p ∷ ps)
    by ih false e = record { at = p; among = inl refl; unknown = e }
    by ih true e =
        let u = ih (and-true (all_known μ ps) (rw e at h)) in
        record { at = u.at; among = inr u.among; unknown = u.unknown }

-- from a place that is unknown after a step to one that is unknown before it: itself where it is not written, or a source
pub data Came (x : Step) (μ : Map) (q : Place) : Type 0 where
  stayed : writes x q ≡ false → known μ q ≡ false → Came x μ q
  read : (p : Place) → Among p (reads x q) → known μ p ≡ false → Came x μ q

pub back : (x : Step) (μ : Map) → Mapped μ → (q : Place) → Present q → known (step_marks x μ) q ≡ false → Came x μ q
back x μ m q h e = by (writes x q) refl
  where
    by : (b : Bool) → writes x q ≡ b → Came x μ q
    by false y = stayed y (sym (kept μ x μ q y) ∙ e)
    by true y = let u = some_Unknown μ (reads x q) (written μ x μ m q h y e) in read u.at u.among u.unknown
