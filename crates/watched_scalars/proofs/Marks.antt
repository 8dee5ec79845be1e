-- Where LEN is 0, from the marks of a step on the registers that a word names to those that the word means, over the precision.
use Prim.Native.Nat.{ℕ, ◌/◌, ◌%◌, ◌^◌, ◌<◌}
use mathlib.Core.Path.{◌≡◌}
use mathlib.Core.Bool.{Bool}
use mathlib.Core.List.{List, [], ◌∷◌}
use lib.Ieee.{Format}
use denote.Enum.Declared.{tag_of}
use types.Run.{OneOf}
use Rattle.machine.specs.Place.{control_of}
use Rattle.meaning.specs.Step.{Step}
use Rattle.meaning.specs.Tree.{Tree}
use Rattle.numbers.specs.declared.arithmetic.Arithmetic.{Arithmetic}
use Rattle.arithmetic_steps.specs.Arithmetic.{arithmetic_step}
use Rattle.sign_steps.specs.declared.sign.SignOperation.{SignOperation}
use Rattle.sign_steps.specs.Sign.{sign_step}
use Rattle.root_steps.specs.Root.{root_step}
use Rattle.short_vectors.specs.Vector.{iterations_of, monadic_step}
use Rattle.short_vectors.proofs.Loop.{once_only}
use Rattle.decoding.specs.declared.operation.Operation.{Operation}
use Rattle.decoding.specs.declared.operation.Operation.TheVariants.{Fsqrt}
use Rattle.decoding.specs.contracts.operation.Operation.{the_type}
use Rattle.register_fields.specs.Fields.{reg_d, reg_n, reg_m}
use Rattle.decoding.specs.Operation.{operation_numbered, arithmetic_of}
use Rattle.processing.specs.Data.{named_tree, Handled}
use Rattle.processing.specs.declared.Processed.TheVariants.{Done}
use Rattle.processing_marks.specs.Marked.{Marked, MarksStepped, MarksIterated}
use Rattle.processing_marks.proofs.Steps.{on_marks}
use Rattle.processing_marks.proofs.Done.{dyadic-Marked, signed, rooted}
use Rattle.scalars.proofs.Scalar.{nine, in_control}
use Rattle.watched_scalars.specs.declared.Watched.{Watched}

pub scalar_Marked : (f : Format) (w fpscr m m' : ℕ) → fpscr / 2 ^ 16 % 8 ≡ 0 → (n : ℕ) → 0 < n → n < 10 → {d a b : ℕ} {k : Arithmetic}
    → k ≡ arithmetic_of (operation_numbered n) → d ≡ reg_d f w → a ≡ reg_n f w → b ≡ reg_m f w
    → MarksStepped (arithmetic_step f (control_of fpscr) k d a b) m m' → Marked (named_tree f w (operation_numbered n)) fpscr m m'
scalar_Marked f w fpscr m m' scalar n h g {d} {a} {b} {k} k' d' a' b' does =
    dyadic-Marked fpscr m m' (named_tree f w (operation_numbered n)) f w (arithmetic_of (operation_numbered n)) (λ thumb. nine thumb f w n h g)
    (λ v. rw (← k', ← d', ← a', ← b') (once_only on_marks f (control_of fpscr) (arithmetic_step f (control_of fpscr) k) d a b (in_control fpscr scalar) does v))

-- a step of one operand
module _ (f : Format) (w fpscr m m' : ℕ) (scalar : fpscr / 2 ^ 16 % 8 ≡ 0) (o : Operation) where
  one_marked : (one : ℕ → ℕ → Step) → MarksStepped (one (reg_d f w) (reg_m f w)) m m'
      → MarksIterated (iterations_of f (control_of fpscr) (reg_d f w)) (monadic_step f (control_of fpscr) one (reg_d f w) (reg_m f w)) m m'
  one_marked one does = once_only on_marks f (control_of fpscr) (λ d n b. one d b) (reg_d f w) (reg_d f w) (reg_m f w) (in_control fpscr scalar) does

  pub sign_Marked : OneOf (10 ∷ 11 ∷ 12 ∷ []) (tag_of the_type o)
      → ((sign : SignOperation) → MarksStepped (sign_step f sign (reg_d f w) (reg_m f w)) m m') → Marked (named_tree f w o) fpscr m m'
  sign_Marked h does = signed f w fpscr m m' o h (λ sign. one_marked (sign_step f sign) (does sign))

  pub root_Marked : o ≡ Fsqrt → ((control : ℕ) → MarksStepped (root_step f control (reg_d f w) (reg_m f w)) m m') → Marked (named_tree f w o) fpscr m m'
  root_Marked e does = rooted f w fpscr m m' o e (one_marked (root_step f (control_of fpscr)) (does (control_of fpscr)))

-- what is done and marked, as the code hands it on
pub handed_on : (t : Bool → Tree) (w : ℕ) (s : List ℕ) (fpscr : ℕ) (s' : List ℕ) (fpscr' m m' : ℕ) (y : Watched) → y ≡ record { fpscr = fpscr'; marks = m' }
    → Handled t w s fpscr s' (Done fpscr') → Marked t fpscr m m' → Handled t w s fpscr s' (Done y.fpscr) × Marked t fpscr m y.marks
handed_on t w s fpscr s' fpscr' m m' y e h g = rw e (h, g)
