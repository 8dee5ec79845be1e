-- What register transfers write and read.
use Prim.Native.Nat.{ℕ, ◌+◌, ◌*◌, ◌%◌, ◌^◌, ◌<◌}
use native.Mathlib.Omega.{arith}
use mathlib.Core.Path.{◌≡◌, refl, ap, sym, ◌∙◌, subst}
use mathlib.Core.Bool.{Bool, true, false, cond}
use mathlib.Core.List.{List, [], ◌∷◌}
use lib.Dec.{eqb}
use borrow.Author.Tests.{eq-eqb, ne_eqb, eqb-true}
use Rattle.bits.specs.Field.{field, bit_of}
use Rattle.machine.specs.Place.{Place, State, core, flags, control, exc, nzcv, exceptions, place, number, s_word}
use Rattle.meaning.specs.Map.{known}
use Rattle.meaning.specs.Step.{Write, Step, fst, snd, rest, once, constant, copy}
use Rattle.meaning.specs.Tree.{Tree, go, branch}
use Rattle.transfers.specs.Transfer.{read_system, read_flags, write_system, system_tree, single_tree, fpsid, target}
use Rattle.chains.specs.Steps.{act_of}
use Rattle.chains.specs.Chain.{writes, reads}
use Rattle.chains.specs.Origin.{Present}
use Rattle.place_marks.proofs.Places.{place-core, place-flags, place-control, place-exc, place-exceptions}
use Rattle.sources.specs.declared.Source.{Source}
use Rattle.sources.specs.declared.Source.TheVariants.{Kept, From}
use Rattle.sources.specs.Source.{Picks, Tracing, Leading}
use Rattle.sources.proofs.Picking.{Tells, Picked, single_place, pick_last, pick_first, pick_on}
use Rattle.place_marks.specs.Word.{map_in}
use Rattle.sources.proofs.Rules.{sole_target, sole_other, other_at, from_only, from_picked, from_nothing, once-Leading}

-- ---- a write by the number of a system register: 1, 8 or a constant

module _ (one eight : Write) (zero other : ℕ) (p : Place) (h : Present p) (a : one.target ≡ p) (b : eight.target ≡ p) where
  abbrev by : ℕ → Write
  by reg = cond (eqb reg 0) (constant p zero) (cond (eqb reg 1) one (cond (eqb reg 8) eight (constant p other)))

  target-by : (reg : ℕ) → (by reg).target ≡ p
  target-by reg = split (eqb reg 0) (eqb reg 1) (eqb reg 8)
    where
      split : (x y z : Bool) → (cond x (constant p zero) (cond y one (cond z eight (constant p other)))).target ≡ p
      split true y z = refl
      split false true z = a
      split false false true = b
      split false false false = refl

  module _ (m q reg : ℕ) where
    by_other : (q ≡ number p → ⊥) → Tracing (by reg ∷ []) m q Kept
    by_other n w u = sole_other (by reg) (subst Present (sym (target-by reg)) h) q (λ e. n (e ∙ ap number (target-by reg)))

    by_one : (k : ℕ) → reg ≡ 1 → q ≡ number p → Picks m one.sources k → Tracing (by reg ∷ []) m q (From k)
    by_one k g e f =
        subst (λ (n : ℕ). Tracing (by n ∷ []) m q (From k)) (sym g)
        (from_picked (one ∷ []) m q one.sources k (sole_target one (subst Present (sym a) h) q (e ∙ ap number (sym a))) f)

    by_eight : (k : ℕ) → reg ≡ 8 → q ≡ number p → Picks m eight.sources k → Tracing (by reg ∷ []) m q (From k)
    by_eight k g e f =
        subst (λ (n : ℕ). Tracing (by n ∷ []) m q (From k)) (sym g)
        (from_picked (eight ∷ []) m q eight.sources k (sole_target eight (subst Present (sym b) h) q (e ∙ ap number (sym b))) f)

    by_none : (r : Source) → (reg ≡ 1 → ⊥) → (reg ≡ 8 → ⊥) → q ≡ number p → Tracing (by reg ∷ []) m q r
    by_none r n l e = rw (ne_eqb reg 1 n, ne_eqb reg 8 l) (split (eqb reg 0))
      where
        split : (x : Bool) → Tracing (cond x (constant p zero) (constant p other) ∷ []) m q r
        split true = from_nothing (constant p zero ∷ []) m q r (sole_target (constant p zero) h q e)
        split false = from_nothing (constant p other ∷ []) m q r (sole_target (constant p other) h q e)

-- ---- one place is picked of one

only_place : (m k : ℕ) (p : Place) → place k ≡ p → Picks m (p ∷ []) k
only_place m k p e w u = rw e (pick_last (map_in m w) p u)

-- ---- VMRS to r15, to another core register, and VMSR

module _ (m q reg : ℕ) where
  pub flags_other : (q ≡ number nzcv → ⊥) → Tracing (read_flags reg ∷ []) m q Kept
  flags_other n = by_other (copy nzcv flags) _ _ _ nzcv tt refl refl m q reg n

  pub flags_one : q ≡ number nzcv → reg ≡ 1 → Tracing (read_flags reg ∷ []) m q (From (number flags))
  flags_one e g = by_one (copy nzcv flags) _ _ _ nzcv tt refl refl m q reg (number flags) g e (only_place m (number flags) flags place-flags)

  pub flags_eight : q ≡ number nzcv → reg ≡ 8 → Tracing (read_flags reg ∷ []) m q (From (number exc))
  flags_eight e g = by_eight (copy nzcv flags) _ _ _ nzcv tt refl refl m q reg (number exc) g e (only_place m (number exc) exc place-exc)

  pub flags_none : q ≡ number nzcv → (reg ≡ 1 → ⊥) → (reg ≡ 8 → ⊥) → Tracing (read_flags reg ∷ []) m q Kept
  flags_none e n l = by_none (copy nzcv flags) _ _ _ nzcv tt refl refl m q reg Kept n l e

-- FPSCR, of its three parts
abbrev fpscr_read : Place → Write
fpscr_read p = record { target = p; sources = flags ∷ control ∷ exceptions ∷ []; value = λ vs. fst vs * 2 ^ 28 + snd vs + snd (rest vs) }

module _ (m q reg t : ℕ) (h : t < 16) where
  pub value_other : (q ≡ 32 + t → ⊥) → Tracing (read_system reg (core t) ∷ []) m q Kept
  value_other n = by_other (fpscr_read (core t)) (copy (core t) exc) fpsid 0 (core t) h refl refl m q reg n

  pub value_one : (k : ℕ) → q ≡ 32 + t → reg ≡ 1 → Picks m (flags ∷ control ∷ exceptions ∷ []) k → Tracing (read_system reg (core t) ∷ []) m q (From k)
  value_one k e g f = by_one (fpscr_read (core t)) (copy (core t) exc) fpsid 0 (core t) h refl refl m q reg k g e f

  pub value_eight : q ≡ 32 + t → reg ≡ 8 → Tracing (read_system reg (core t) ∷ []) m q (From (number exc))
  value_eight e g =
      by_eight (fpscr_read (core t)) (copy (core t) exc) fpsid 0 (core t) h refl refl m q reg (number exc) g e (only_place m (number exc) exc place-exc)

  pub value_none : q ≡ 32 + t → (reg ≡ 1 → ⊥) → (reg ≡ 8 → ⊥) → Tracing (read_system reg (core t) ∷ []) m q Kept
  value_none e n l = by_none (fpscr_read (core t)) (copy (core t) exc) fpsid 0 (core t) h refl refl m q reg Kept n l e

  -- a place that is written from the core register alone
  from_core : (x : Step) → (writes x (place q) ≡ true) × (reads x (place q) ≡ core t ∷ []) → Tracing x m q (From (32 + t))
  from_core x g = from_only x m q (32 + t) (g.0, g.1 ∙ ap (λ (p : Place). p ∷ []) (sym (place-core t h)))

  pub written_flags : reg ≡ 1 → q ≡ number flags → Tracing (write_system reg (core t)) m q (From (32 + t))
  written_flags g e = rw g (from_core (write_system 1 (core t)) (rw (e, place-flags) (refl, refl)))

  pub written_control : reg ≡ 1 → q ≡ number control → Tracing (write_system reg (core t)) m q (From (32 + t))
  written_control g e = rw g (from_core (write_system 1 (core t)) (rw (e, place-control) (refl, refl)))

  pub written_exceptions : reg ≡ 1 → q ≡ number exceptions → Tracing (write_system reg (core t)) m q (From (32 + t))
  written_exceptions g e = rw g (from_core (write_system 1 (core t)) (rw (e, place-exceptions) (refl, refl)))

  pub written_exc : reg ≡ 8 → q ≡ number exc → Tracing (write_system reg (core t)) m q (From (32 + t))
  written_exc g e = rw g (from_core (write_system 8 (core t)) (rw (e, place-exc) (refl, refl)))

  pub written_other : reg ≡ 1 → (q ≡ number flags → ⊥) → (q ≡ number control → ⊥) → (q ≡ number exceptions → ⊥) → Tracing (write_system reg (core t)) m q Kept
  written_other g a b c w u = rw (g, other_at flags tt q a, other_at control tt q b, other_at exceptions tt q c) refl

  pub written_other_exc : reg ≡ 8 → (q ≡ number exc → ⊥) → Tracing (write_system reg (core t)) m q Kept
  written_other_exc g a w u = rw (g, other_at exc tt q a) refl

  pub written_none : (reg ≡ 1 → ⊥) → (reg ≡ 8 → ⊥) → Tracing (write_system reg (core t)) m q Kept
  written_none a b w u = rw (ne_eqb reg 1 a, ne_eqb reg 8 b) refl

-- ---- the trees

module _ (op m q : ℕ) (r : Source) (st : State) where
  leads : (t : Tree) (x : Step) → t ≡ go (once x) → Tracing x m q r → Leading (act_of t st) m q r
  unfolding act_of
  leads t x e f = rw e (once-Leading x m q r f)

  leads_branch : (t : Tree) (x : Step) → t ≡ branch (once x) → Tracing x m q r → Leading (act_of t st) m q r
  unfolding act_of
  leads_branch t x e f = rw e (once-Leading x m q r f)

  pub system_flags : bit_of op 20 ≡ true → (rt reg : ℕ) → rt ≡ field op 12 15 → reg ≡ field op 16 19 → rt ≡ 15 → Tracing (read_flags reg ∷ []) m q r → Leading (act_of (system_tree op) st) m q r
  system_flags b rt reg e g h f = leads (system_tree op) (read_flags reg ∷ []) (rw (b, ← e, ← g, eq-eqb rt 15 h) refl) f

  pub system_value : bit_of op 20 ≡ true → (rt reg : ℕ) → rt ≡ field op 12 15 → reg ≡ field op 16 19 → (rt ≡ 15 → ⊥) → Tracing (read_system reg (core rt) ∷ []) m q r
      → Leading (act_of (system_tree op) st) m q r
  system_value b rt reg e g h f = leads (system_tree op) (read_system reg (core rt) ∷ []) (rw (b, ← e, ← g, ne_eqb rt 15 h) refl) f

  pub system_written : bit_of op 20 ≡ false → (rt reg : ℕ) → rt ≡ field op 12 15 → reg ≡ field op 16 19 → Tracing (write_system reg (core rt)) m q r
      → Leading (act_of (system_tree op) st) m q r
  system_written b rt reg e g f = leads (system_tree op) (write_system reg (core rt)) (rw (b, ← e, ← g) refl) f

-- to a core register, of which r15 branches: whatever is stored there
module _ (op n m q : ℕ) (r : Source) (thumb : Bool) (st : State) (rt : ℕ) (e : rt ≡ field op 12 15) where
  to_core : bit_of op 20 ≡ true → ((v : List ℕ → ℕ) → Tracing (record { target = core rt; sources = s_word n ∷ []; value = v } ∷ []) m q r)
      → Leading (act_of (single_tree thumb n op) st) m q r
  to_core b f = by (eqb rt 15) refl
    where
      by : (x : Bool) → eqb rt 15 ≡ x → Leading (act_of (single_tree thumb n op) st) m q r
      by true g =
          leads_branch op m q r st (single_tree thumb n op) (record { target = core rt; sources = s_word n ∷ []; value = λ vs. target thumb (fst vs) } ∷ [])
          (rw (b, ← e, g, eqb-true rt 15 g) refl) (f (λ vs. target thumb (fst vs)))
      by false g = leads op m q r st (single_tree thumb n op) (copy (core rt) (s_word n) ∷ []) (rw (b, ← e, g) refl) (f fst)

  to_single : bit_of op 20 ≡ false → Tracing (copy (s_word n) (core rt) ∷ []) m q r → Leading (act_of (single_tree thumb n op) st) m q r
  to_single b f = leads op m q r st (single_tree thumb n op) (copy (s_word n) (core rt) ∷ []) (rw (b, ← e) refl) f

module _ (op n q rt : ℕ) (h : rt < 16) (e : rt ≡ field op 12 15) (thumb : Bool) (st : State) (m : ℕ) where
  pub core_from : bit_of op 20 ≡ true → q ≡ 32 + rt → Leading (act_of (single_tree thumb n op) st) m q (From (n % 32))
  core_from b g =
      to_core op n m q (From (n % 32)) thumb st rt e b
      (λ v.
      let z = sole_target (record { target = core rt; sources = s_word n ∷ []; value = v }) h q g in
      from_only (record { target = core rt; sources = s_word n ∷ []; value = v } ∷ []) m q (n % 32) (z.0, z.1 ∙ ap (λ (p : Place). p ∷ []) (sym (single_place n))))

  pub core_kept : bit_of op 20 ≡ true → (q ≡ 32 + rt → ⊥) → Leading (act_of (single_tree thumb n op) st) m q Kept
  core_kept b g = to_core op n m q Kept thumb st rt e b (λ v w u. sole_other (record { target = core rt; sources = s_word n ∷ []; value = v }) h q g)

  pub single_from : bit_of op 20 ≡ false → q ≡ n % 32 → Leading (act_of (single_tree thumb n op) st) m q (From (32 + rt))
  single_from b g =
      to_single op n m q (From (32 + rt)) thumb st rt e b
      (from_core m q 0 rt h (copy (s_word n) (core rt) ∷ []) (sole_target (copy (s_word n) (core rt)) (omega arith) q g))

  pub single_kept : bit_of op 20 ≡ false → (q ≡ n % 32 → ⊥) → Leading (act_of (single_tree thumb n op) st) m q Kept
  single_kept b g = to_single op n m q Kept thumb st rt e b (λ w u. sole_other (copy (s_word n) (core rt)) (omega arith) q g)

-- ---- an unknown part of FPSCR

module _ (m : ℕ) (b : Bool) (f : Tells m (number flags) b) where
  pub part_flags : b ≡ false → Picks m (flags ∷ control ∷ exceptions ∷ []) (number flags)
  part_flags g w u = rw place-flags (pick_first (map_in m w) flags (control ∷ exceptions ∷ []) (ap (known (map_in m w)) (sym place-flags) ∙ sym (f w) ∙ g))

  module _ (g : b ≡ true) (c : Bool) (h : Tells m (number control) c) where
    beyond : (p : Place) → ((w : List ℕ) → Picked (map_in m w) (control ∷ exceptions ∷ []) p) → (w : List ℕ) → Picked (map_in m w) (flags ∷ control ∷ exceptions ∷ []) p
    beyond p k w = pick_on (map_in m w) flags (control ∷ exceptions ∷ []) p (ap (known (map_in m w)) (sym place-flags) ∙ sym (f w) ∙ g) (k w)

    pub part_control : c ≡ false → Picks m (flags ∷ control ∷ exceptions ∷ []) (number control)
    part_control e w =
        rw place-control (beyond control (λ v u. pick_first (map_in m v) control (exceptions ∷ []) (ap (known (map_in m v)) (sym place-control) ∙ sym (h v) ∙ e)) w)

    pub part_exceptions : c ≡ true → Picks m (flags ∷ control ∷ exceptions ∷ []) (number exceptions)
    part_exceptions e w =
        rw place-exceptions
        (beyond exceptions
        (λ v. pick_on (map_in m v) control (exceptions ∷ []) exceptions (ap (known (map_in m v)) (sym place-control) ∙ sym (h v) ∙ e) (pick_last (map_in m v) exceptions)) w)
