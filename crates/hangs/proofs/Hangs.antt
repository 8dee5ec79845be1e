-- Which place a word hangs on, by the tests that the code makes.
use Prim.Native.Nat.{ℕ, ◌<◌}
use native.Mathlib.Omega.{arith}
use mathlib.Core.Path.{◌≡◌, refl, sym, ◌∙◌}
use mathlib.Core.List.{[], ◌∷◌}
use mathlib.Core.Bool.{true≢false}
use denote.Enum.Declared.{tag_of}
use types.Run.{OneOf}
use mathlib.Core.Bool.{Bool, true, false, cond, ◌&&◌}
use lib.Dec.{eqb}
use lib.Ieee.{Format, binary32, binary64}
use borrow.Author.Tests.{ne_eqb}
use Rattle.bits.specs.Field.{field, bit_of}
use Rattle.machine.specs.Place.{State, core, control, number}
use Rattle.meaning.specs.Map.{Map, known}
use Rattle.meaning.specs.Step.{Step, nothing}
use Rattle.meaning.specs.Tree.{Tree, go}
use Rattle.meaning.specs.Hang.{Hang, clear, at, hang_of}
use Rattle.decoding.specs.declared.operation.Operation.TheVariants as O
use Rattle.decoding.specs.declared.operation.Operation.{Operation}
use Rattle.decoding.specs.Operation.{operation_numbered, operation_of, number_of}
use Rattle.decoding.specs.contracts.operation.Operation.{the_type}
use Rattle.decoding.proofs.Named.{one_of}
use Rattle.meaning.proofs.Laws.{clear-go}
use Rattle.register_fields.specs.Fields.{reg_d}
use Rattle.processing.specs.Data.{stepping, undefined_tree, operation_tree, data_tree}
use Rattle.memory.specs.LoadStore.{access_tree, load_store_tree}
use Rattle.transfers.specs.declared.Transfer.{Transfer}
use Rattle.transfers.specs.declared.Transfer.TheVariants.{System, Single, Nothing}
use Rattle.transfers.specs.Transfer.{transfer_by}

pub steps : (f : Format) (d : ℕ) (each : ℕ → ℕ → Step) (st : State) (μ : Map) → cond (known μ control) clear (at (number control)) ≡ hang_of (stepping f d each) st μ
unfolding hang_of
steps f d each st μ = refl

pub undefined : (thumb : Bool) (w : ℕ) (st : State) (μ : Map) → cond (known μ (core 15)) clear (at (number (core 15))) ≡ hang_of (undefined_tree thumb w) st μ
unfolding hang_of
undefined thumb w st μ = refl

-- ---- where FPSCR 27:5 is known, no word of data processing hangs that is defined, and where r15 is known too, none does

pub both : (a b : Bool) → (a && b) ≡ true → (a ≡ true) × (b ≡ true)
both true b e = (refl, e)
both false b e = (e, absurd (true≢false (sym e)))

picked : (b : Bool) (x : Hang) → b ≡ true → clear ≡ cond b clear x
picked b x e = rw e

module _ (st : State) (μ : Map) (p : known μ control ≡ true) where
  stepping_known : (f : Format) (d : ℕ) (each : ℕ → ℕ → Step) → clear ≡ hang_of (stepping f d each) st μ
  stepping_known f d each = picked (known μ control) (at (number control)) p ∙ steps f d each st μ

  -- where an Undefined word does not hang, no operation does
  operation_known : (f : Format) (w : ℕ) (o : Operation) → (o ≡ O.Undefined → clear ≡ hang_of (undefined_tree false w) st μ) → clear ≡ hang_of (operation_tree false f w o) st μ
  unfolding operation_tree
  operation_known f w O.Fmac h = stepping_known f (reg_d f w) _
  operation_known f w O.Fnmac h = stepping_known f (reg_d f w) _
  operation_known f w O.Fmsc h = stepping_known f (reg_d f w) _
  operation_known f w O.Fnmsc h = stepping_known f (reg_d f w) _
  operation_known f w O.Fmul h = stepping_known f (reg_d f w) _
  operation_known f w O.Fnmul h = stepping_known f (reg_d f w) _
  operation_known f w O.Fadd h = stepping_known f (reg_d f w) _
  operation_known f w O.Fsub h = stepping_known f (reg_d f w) _
  operation_known f w O.Fdiv h = stepping_known f (reg_d f w) _
  operation_known f w O.Fcpy h = stepping_known f (reg_d f w) _
  operation_known f w O.Fabs h = stepping_known f (reg_d f w) _
  operation_known f w O.Fneg h = stepping_known f (reg_d f w) _
  operation_known f w O.Fsqrt h = stepping_known f (reg_d f w) _
  operation_known f w O.Fcmp h = clear-go _ st μ
  operation_known f w O.Fcmpe h = clear-go _ st μ
  operation_known f w O.Fcmpz h = clear-go _ st μ
  operation_known f w O.Fcmpez h = clear-go _ st μ
  operation_known f w O.Fcvt h = clear-go _ st μ
  operation_known f w O.Fuito h = clear-go _ st μ
  operation_known f w O.Fsito h = clear-go _ st μ
  operation_known f w O.Ftoui h = clear-go _ st μ
  operation_known f w O.Ftouiz h = clear-go _ st μ
  operation_known f w O.Ftosi h = clear-go _ st μ
  operation_known f w O.Ftosiz h = clear-go _ st μ
  operation_known f w O.Undefined h = h refl

  pub defined_known : (f : Format) (w : ℕ) (o : Operation) → 0 < number_of o → clear ≡ hang_of (operation_tree false f w o) st μ
  defined_known f w o h = operation_known f w o (λ e. absurd (none (rw e at h)))
    where
      none : 0 < 0 → ⊥
      none g = omega arith

module _ (st : State) (μ : Map) (p : known μ control ≡ true) (q : known μ (core 15) ≡ true) where
  undefined_known : (w : ℕ) → clear ≡ hang_of (undefined_tree false w) st μ
  undefined_known w = picked (known μ (core 15)) (at (number (core 15))) q ∙ undefined false w st μ

  pub data_known : (w : ℕ) → clear ≡ hang_of (data_tree false w) st μ
  unfolding data_tree
  data_known w = by (eqb (field w 8 11) 10) (eqb (field w 8 11) 11)
    where
      by : (a b : Bool)
          → clear ≡ hang_of (cond a (operation_tree false binary32 w (operation_of w)) (cond b (operation_tree false binary64 w (operation_of w)) (undefined_tree false w))) st μ
      by true b = operation_known st μ p binary32 w (operation_of w) (λ e. undefined_known w)
      by false true = operation_known st μ p binary64 w (operation_of w) (λ e. undefined_known w)
      by false false = undefined_known w

-- ---- by the operation

module _ (f : Format) (w : ℕ) (o : Operation) (st : State) (μ : Map) where
  pub operation_steps : OneOf (1 ∷ 2 ∷ 3 ∷ 4 ∷ 5 ∷ 6 ∷ 7 ∷ 8 ∷ 9 ∷ 10 ∷ 11 ∷ 12 ∷ 13 ∷ []) (tag_of the_type o)
      → cond (known μ control) clear (at (number control)) ≡ hang_of (operation_tree false f w o) st μ
  unfolding hang_of operation_tree operation_numbered
  operation_steps h =
      one_of (λ p. cond (known μ control) clear (at (number control))) (λ p. hang_of (operation_tree false f w p) st μ) (1 ∷ 2 ∷ 3 ∷ 4 ∷ 5 ∷ 6 ∷ 7 ∷ 8 ∷ 9 ∷ 10 ∷ 11 ∷ 12 ∷ 13 ∷ []) o h refl

  pub operation_clear : OneOf (14 ∷ 15 ∷ 16 ∷ 17 ∷ 18 ∷ 19 ∷ 20 ∷ 21 ∷ 22 ∷ 23 ∷ 24 ∷ []) (tag_of the_type o) → clear ≡ hang_of (operation_tree false f w o) st μ
  unfolding hang_of operation_tree operation_numbered
  operation_clear h =
      one_of (λ p. clear) (λ p. hang_of (operation_tree false f w p) st μ) (14 ∷ 15 ∷ 16 ∷ 17 ∷ 18 ∷ 19 ∷ 20 ∷ 21 ∷ 22 ∷ 23 ∷ 24 ∷ []) o h refl

  pub operation_none : o ≡ O.Undefined → cond (known μ (core 15)) clear (at (number (core 15))) ≡ hang_of (operation_tree false f w o) st μ
  unfolding hang_of operation_tree
  operation_none e = rw e

-- ---- loads and stores

module _ (f : Format) (base w : ℕ) (st : State) (μ : Map) where
  pub pair_clear : (k : ℕ) → k ≡ field w 21 27 → k ≡ 0b110_0010 → clear ≡ hang_of (access_tree f base w) st μ
  unfolding hang_of access_tree
  pair_clear k p e = rw (← p, e)

  pub base_asked : (k : ℕ) → k ≡ field w 21 27 → (k ≡ 0b110_0010 → ⊥) → (n : ℕ) → n ≡ field w 16 19 → cond (known μ (core n)) clear (at (number (core n))) ≡ hang_of (access_tree f base w) st μ
  unfolding hang_of access_tree
  base_asked k p e n q = rw (← p, ne_eqb _ _ e, ← q)

module _ (base w k : ℕ) (p : k ≡ field w 8 11) where
  pub access_single : k ≡ 10 → load_store_tree base w ≡ access_tree binary32 base w
  unfolding load_store_tree
  access_single e = rw (← p, e)

  pub access_double : k ≡ 11 → load_store_tree base w ≡ access_tree binary64 base w
  unfolding load_store_tree
  access_double e = rw (← p, e)

  pub access_none : (k ≡ 10 → ⊥) → (k ≡ 11 → ⊥) → load_store_tree base w ≡ go nothing
  unfolding load_store_tree
  access_none a b = rw (← p, ne_eqb _ _ a, ne_eqb _ _ b)

-- ---- a transfer asks for nothing

either : (b : Bool) (x y : Tree) (st : State) (μ : Map) → clear ≡ hang_of x st μ → clear ≡ hang_of y st μ → clear ≡ hang_of (cond b x y) st μ
either true x y st μ p q = p
either false x y st μ p q = q

pub transfer_clear : (t : Transfer) (thumb : Bool) (w : ℕ) (st : State) (μ : Map) → clear ≡ hang_of (transfer_by t thumb w) st μ
unfolding hang_of
transfer_clear System thumb w st μ = either (bit_of w 20) _ _ st μ (either (eqb (field w 12 15) 15) _ _ st μ refl refl) refl
transfer_clear (Single n) thumb w st μ = either (bit_of w 20) _ _ st μ (either (eqb (field w 12 15) 15) _ _ st μ refl refl) refl
transfer_clear Nothing thumb w st μ = refl
