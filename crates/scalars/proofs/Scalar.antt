-- Where LEN is 0, from a step on the registers that a word names to what the word means, over the precision.
use Prim.Native.Nat.{ℕ, zero, suc, ◌/◌, ◌%◌, ◌^◌, ◌<◌}
use native.Mathlib.Omega.{arith}
use mathlib.Core.Path.{◌≡◌, refl, subst}
use mathlib.Core.Bool.{Bool, false}
use mathlib.Core.List.{List, [], ◌∷◌}
use lib.Dec.{ltb}
use lib.Ieee.{Format}
use borrow.Author.Tests.{ltb-false}
use denote.Enum.Declared.{tag_of}
use types.Run.{OneOf}
use Rattle.machine.specs.Place.{control_of}
use Rattle.numbers.specs.Arithmetic.{accumulates}
use Rattle.numbers.specs.declared.arithmetic.Arithmetic.{Arithmetic}
use Rattle.meaning.specs.Step.{Step}
use Rattle.short_vectors.specs.Vector.{iterations_of, monadic_step}
use Rattle.short_vectors.specs.Register.{Stepped, SteppedWith, Iterated, IteratedWith}
use Rattle.short_vectors.proofs.Loop.{on_singles, on_both, both, once_only}
use Rattle.arithmetic_steps.specs.Arithmetic.{arithmetic_step}
use Rattle.decoding.specs.declared.operation.Operation.{Operation}
use Rattle.register_fields.specs.Fields.{reg_d, reg_n, reg_m}
use Rattle.decoding.specs.Operation.{operation_numbered, arithmetic_of, number_of}
use Rattle.decoding.specs.contracts.operation.Operation.{the_type}
use Rattle.decoding.proofs.Named.{one_of}
use Rattle.processing.specs.Data.{operation_tree, named_tree, dyadic, Handled}
use Rattle.processing.specs.declared.Processed.TheVariants.{Done}
use Rattle.processing.proofs.Done.{dyadic_done}

-- operations 1 to 9 are the arithmetic
pub nine : (thumb : Bool) (f : Format) (w n : ℕ) → 0 < n → n < 10 → operation_tree thumb f w (operation_numbered n) ≡ dyadic f w (arithmetic_of (operation_numbered n))
unfolding operation_tree operation_numbered
nine thumb f w zero h g = absurd (omega arith)
nine thumb f w (suc zero) h g = refl
nine thumb f w (suc (suc zero)) h g = refl
nine thumb f w (suc (suc (suc zero))) h g = refl
nine thumb f w (suc (suc (suc (suc zero)))) h g = refl
nine thumb f w (suc (suc (suc (suc (suc zero))))) h g = refl
nine thumb f w (suc (suc (suc (suc (suc (suc zero)))))) h g = refl
nine thumb f w (suc (suc (suc (suc (suc (suc (suc zero))))))) h g = refl
nine thumb f w (suc (suc (suc (suc (suc (suc (suc (suc zero)))))))) h g = refl
nine thumb f w (suc (suc (suc (suc (suc (suc (suc (suc (suc zero))))))))) h g = refl
nine thumb f w (suc (suc (suc (suc (suc (suc (suc (suc (suc (suc n)))))))))) h g = absurd (omega arith)

-- and the first four of them accumulate
four : (n : ℕ) → 0 < n → n < 10 → ltb n 5 ≡ accumulates (arithmetic_of (operation_numbered n))
unfolding operation_numbered
four zero h g = absurd (omega arith)
four (suc zero) h g = refl
four (suc (suc zero)) h g = refl
four (suc (suc (suc zero))) h g = refl
four (suc (suc (suc (suc zero)))) h g = refl
four (suc (suc (suc (suc (suc zero))))) h g = refl
four (suc (suc (suc (suc (suc (suc zero)))))) h g = refl
four (suc (suc (suc (suc (suc (suc (suc zero))))))) h g = refl
four (suc (suc (suc (suc (suc (suc (suc (suc zero)))))))) h g = refl
four (suc (suc (suc (suc (suc (suc (suc (suc (suc zero))))))))) h g = refl
four (suc (suc (suc (suc (suc (suc (suc (suc (suc (suc n)))))))))) h g = absurd (omega arith)

-- of the kind that the code has
pub accumulates_first : (n : ℕ) → 0 < n → n < 10 → {k : Arithmetic} → k ≡ arithmetic_of (operation_numbered n) → ltb n 5 ≡ accumulates k
accumulates_first n h g e = rw e (four n h g)

-- LEN stands in the control bits
pub in_control : (fpscr : ℕ) → fpscr / 2 ^ 16 % 8 ≡ 0 → control_of fpscr / 2 ^ 16 % 8 ≡ 0
in_control fpscr h = omega arith

-- a step after one that changed nothing
pub unchanged : (x : Step) {s s₁ : List ℕ} (fpscr fpscr' : ℕ) (s' : List ℕ) → s₁ ≡ s → SteppedWith x fpscr s₁ fpscr' s' → SteppedWith x fpscr s fpscr' s'
unchanged x fpscr fpscr' s' e h = subst (λ (t : List ℕ). SteppedWith x fpscr t fpscr' s') e h

module _ (f : Format) (w : ℕ) (s : List ℕ) (fpscr : ℕ) (s' : List ℕ) (scalar : fpscr / 2 ^ 16 % 8 ≡ 0) where
  pub scalar_done : (n : ℕ) → 0 < n → n < 10 → (fpscr' : ℕ) → {d a b : ℕ} {k : Arithmetic} → k ≡ arithmetic_of (operation_numbered n) → d ≡ reg_d f w → a ≡ reg_n f w → b ≡ reg_m f w
      → SteppedWith (arithmetic_step f (control_of fpscr) k d a b) fpscr s fpscr' s' → Handled (named_tree f w (operation_numbered n)) w s fpscr s' (Done fpscr')
  scalar_done n h g fpscr' {d} {a} {b} {k} k' d' a' b' does =
      dyadic_done w s fpscr s' fpscr' (named_tree f w (operation_numbered n)) f (arithmetic_of (operation_numbered n)) k d a b (λ thumb. nine thumb f w n h g) k' d' a' b'
      (once_only on_both f (control_of fpscr) (arithmetic_step f (control_of fpscr) k) d a b {s = both fpscr s} {s' = both fpscr' s'} (in_control fpscr scalar) does)

  -- a step of one operand is all iterations
  pub one_step : (one : ℕ → ℕ → Step) (d m : ℕ) → Stepped (one d m) s s' → Iterated (iterations_of f (control_of fpscr) d) (monadic_step f (control_of fpscr) one d m) s s'
  one_step one d m does = once_only on_singles f (control_of fpscr) (λ d n m. one d m) d d m (in_control fpscr scalar) does

  -- and with FPSCR
  pub one_step_with : (one : ℕ → ℕ → Step) (d m fpscr' : ℕ) → SteppedWith (one d m) fpscr s fpscr' s'
      → IteratedWith (iterations_of f (control_of fpscr) d) (monadic_step f (control_of fpscr) one d m) fpscr s fpscr' s'
  one_step_with one d m fpscr' does =
      once_only on_both f (control_of fpscr) (λ d n m. one d m) d d m {s = both fpscr s} {s' = both fpscr' s'} (in_control fpscr scalar) does

-- operations 0 to 9 are no unary words
pub unary_only : (o : Operation) → OneOf (0 ∷ 1 ∷ 2 ∷ 3 ∷ 4 ∷ 5 ∷ 6 ∷ 7 ∷ 8 ∷ 9 ∷ []) (tag_of the_type o) → 9 < number_of o → {A : Type 0} → A
unfolding operation_numbered
unary_only o h g =
    let no : ltb 9 (number_of o) ≡ false = one_of (λ o. ltb 9 (number_of o)) (λ o. false) (0 ∷ 1 ∷ 2 ∷ 3 ∷ 4 ∷ 5 ∷ 6 ∷ 7 ∷ 8 ∷ 9 ∷ []) o h refl in
    absurd (omega (arith, ltb-false 9 (number_of o) no))
