-- From what a scalar or any word of data processing does to what its meaning gives.
use Prim.Native.Nat.{ℕ, ◌+◌, ◌*◌, ◌<◌, ◌≤◌}
use native.Mathlib.Omega.{arith}
use mathlib.Core.Path.{◌≡◌, refl, sym, ◌∙◌, ap}
use mathlib.Core.Bool.{Bool, true, false}
use mathlib.Core.List.{List}
use lib.Ieee.{binary32, binary64}
use borrow.Author.Tests.{eqb-true, eqb-false}
use Rattle.bits.specs.Field.{field, bit_of}
use Rattle.machine.specs.declared.Controls.{Controls}
use Rattle.machine.specs.Machine.{assembled}
use Rattle.machine.specs.Place.{state}
use Rattle.meaning.specs.Tree.{out, plain}
use Rattle.decoding.specs.declared.operation.Operation.{Operation}
use Rattle.decoding.specs.Operation.{operation_of, operation_numbered, number_of}
use Rattle.decoding.proofs.Entries.{numbered_number}
use Rattle.processing.specs.declared.Processed.TheVariants.{Done}
use Rattle.processing.specs.Data.{named_tree, data_tree, Handled}
use Rattle.processing.proofs.Done.{Handled-as, data_single, data_double}
use Rattle.run_word.specs.Stop.{next_of}
use Rattle.run_word.specs.declared.Next.TheVariants.{On}
use Rattle.run_word.specs.declared.word.Executed.{Executed}
use Rattle.run_word.proofs.Words.{data_done}

joined : (w : ℕ) → field w 8 11 ≡ field w 9 11 * 2 + field w 8 8
joined w = omega arith

clear : (w : ℕ) → (field w 8 8 ≡ 1 → ⊥) → field w 8 8 ≡ 0
clear w h = omega arith

module _ (w n : ℕ) (o : Operation) (known : n ≡ number_of (operation_of w)) (named : o ≡ operation_numbered n) where
  pub the_operation : o ≡ operation_of w
  the_operation = named ∙ ap operation_numbered known ∙ numbered_number (operation_of w)

  pub is_unary : 10 ≤ n → 9 < number_of o
  is_unary h = rw (the_operation) (omega (arith, known))

  module _ (vfp : field w 9 11 ≡ 0b101) (b : Bool) (p : b ≡ bit_of w 8) where
    pub double_tree : b ≡ true → (thumb : Bool) → data_tree thumb w ≡ named_tree binary64 w o thumb
    double_tree e thumb = let one : field w 8 8 ≡ 1 = eqb-true _ 1 (sym p ∙ e) in data_double w thumb (field w 8 11) refl (joined w ∙ rw (vfp, one)) ∙ rw (the_operation)

    pub single_tree : b ≡ false → (thumb : Bool) → data_tree thumb w ≡ named_tree binary32 w o thumb
    single_tree e thumb =
        let none : field w 8 8 ≡ 0 = clear w (eqb-false _ 1 (sym p ∙ e)) in data_single w thumb (field w 8 11) refl (joined w ∙ rw (vfp, none)) ∙ rw (the_operation)

  module _ (vfp : field w 9 11 ≡ 0b101) (b : Bool) (p : b ≡ bit_of w 8) (s : List ℕ) (fpscr : ℕ) (s' : List ℕ) (after : ℕ) where
    pub as_double : b ≡ true → Handled (named_tree binary64 w o) w s fpscr s' (Done after) → Handled (λ thumb. data_tree thumb w) w s fpscr s' (Done after)
    as_double e h = Handled-as (named_tree binary64 w o) (λ thumb. data_tree thumb w) w s fpscr s' (Done after) (double_tree vfp b p e) h

    pub as_single : b ≡ false → Handled (named_tree binary32 w o) w s fpscr s' (Done after) → Handled (λ thumb. data_tree thumb w) w s fpscr s' (Done after)
    as_single e h = Handled-as (named_tree binary32 w o) (λ thumb. data_tree thumb w) w s fpscr s' (Done after) (single_tree vfp b p e) h

pub goes_on : (w : ℕ) (s r : List ℕ) (x : Controls) (s' : List ℕ) (fpscr : ℕ) (e : Executed)
    → (e.controls ≡ record { fpscr = fpscr; fpexc = x.fpexc; cpsr = x.cpsr }) × (e.next ≡ On)
    → Handled (λ thumb. data_tree thumb w) w s x.fpscr s' (Done fpscr)
    → (v : List ℕ) → out (state (assembled s' r e.controls false) v) (next_of e.next) ≡ plain (data_tree false w) (state (assembled s r x false) v)
goes_on w s r x s' fpscr e p h v = rw (p.0, p.1) (data_done w s r x s' (Done fpscr) h v fpscr refl)
