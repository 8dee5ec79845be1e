-- The map that a register transfer leaves.
use mathlib.Core.Path.{◌≡◌, refl, sym}
use mathlib.Core.Bool.{Bool, true, false, cond}
use mathlib.Core.List.{[], ◌∷◌}
use Prim.Native.Nat.{ℕ}
use native.Mathlib.Decide.{ℕ_discrete}
use lib.Dec.{eqb}
use borrow.Author.Tests.{ne_eqb}
use Rattle.machine.specs.Place.{Place, core, nzcv, s_word, State}
use Rattle.meaning.specs.Map.{Map, known, mark}
use Rattle.meaning.specs.Step.{Write, all_known, step_marks, fst, copy, once}
use Rattle.meaning.specs.Tree.{go, branch}
use Rattle.meaning.specs.Hang.{marked}
use Rattle.meaning.proofs.Laws.{marked-once, marked-branch}
use Rattle.transfers.specs.Transfer.{read_system, read_flags, target}

-- of four writes to one place, one is to that place
to_place : (a b c : Bool) (w x y z : Write) (p : Place) → w.target ≡ p → x.target ≡ p → y.target ≡ p → z.target ≡ p → (cond a w (cond b x (cond c y z))).target ≡ p
to_place true b c w x y z p e f g h = e
to_place false true c w x y z p e f g h = f
to_place false false true w x y z p e f g h = g
to_place false false false w x y z p e f g h = h

core_target : (reg : ℕ) (p : Place) → (read_system reg p).target ≡ p
core_target reg p = to_place (eqb reg 0) (eqb reg 1) (eqb reg 8) _ _ _ _ p refl refl refl refl

flags_target : (reg : ℕ) → (read_flags reg).target ≡ nzcv
flags_target reg = to_place (eqb reg 0) (eqb reg 1) (eqb reg 8) _ _ _ _ nzcv refl refl refl refl

-- a system register read to a core register, and to the flags
pub read_core : (reg t : ℕ) (μ : Map) (b : Bool) → b ≡ all_known μ (read_system reg (core t)).sources → mark μ (core t) b ≡ step_marks (read_system reg (core t) ∷ []) μ
read_core reg t μ b e = rw (e, core_target reg (core t))

pub read_flags_lem : (reg : ℕ) (μ : Map) (b : Bool) → b ≡ all_known μ (read_flags reg).sources → mark μ nzcv b ≡ step_marks (read_flags reg ∷ []) μ
read_flags_lem reg μ b e = rw (e, flags_target reg)

-- a single read to a core register, r15 among them
pub read_single : (thumb : Bool) (n t : ℕ) (st : State) (μ x : Map) → x ≡ mark μ (core t) (known μ (s_word n))
    → x ≡ marked (cond (eqb t 15) (branch (once (record { target = core 15; sources = s_word n ∷ []; value = λ vs. target thumb (fst vs) } ∷ []))) (go (once (copy (core t) (s_word n) ∷ [])))) st μ
read_single thumb n t st μ x e = by (ℕ_discrete t 15)
  where
    by : Dec (t ≡ 15) → x ≡ marked (cond (eqb t 15) (branch (once (record { target = core 15; sources = s_word n ∷ []; value = λ vs. target thumb (fst vs) } ∷ []))) (go (once (copy (core t) (s_word n) ∷ [])))) st μ
    by (yes h) = rw h (marked-branch _ _ _ _ (rw h at e))
    by (no h) = rw (ne_eqb _ _ h) (marked-once _ _ _ _ e)

-- a system register that reads as a constant is known
constants : (a b c : Bool) (w x y z : Write) (μ : Map) → b ≡ false → c ≡ false → all_known μ w.sources ≡ true → all_known μ z.sources ≡ true
    → true ≡ all_known μ (cond a w (cond b x (cond c y z))).sources
constants true b c w x y z μ f g e h = sym e
constants false b c w x y z μ f g e h = rw (f, g) (sym h)

pub other : (reg : ℕ) (p : Place) (μ : Map) → (reg ≡ 1 → ⊥) → (reg ≡ 8 → ⊥) → true ≡ all_known μ (read_system reg p).sources
other reg p μ f g = constants (eqb reg 0) (eqb reg 1) (eqb reg 8) _ _ _ _ μ (ne_eqb _ _ f) (ne_eqb _ _ g) refl refl

pub other_flags : (reg : ℕ) (μ : Map) → (reg ≡ 1 → ⊥) → (reg ≡ 8 → ⊥) → true ≡ all_known μ (read_flags reg).sources
other_flags reg μ f g = constants (eqb reg 0) (eqb reg 1) (eqb reg 8) _ _ _ _ μ (ne_eqb _ _ f) (ne_eqb _ _ g) refl refl
