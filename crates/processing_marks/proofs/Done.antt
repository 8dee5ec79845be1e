-- From the marks that a leaf leaves to those that its word means, over the precision.
use Prim.Native.Nat.{ℕ}
use mathlib.Core.Path.{◌≡◌, refl}
use mathlib.Core.Bool.{Bool, cond}
use mathlib.Core.List.{List, [], ◌∷◌}
use lib.Dec.{eqb}
use lib.Ieee.{Format, binary32}
use denote.Enum.Declared.{tag_of}
use types.Run.{OneOf}
use Rattle.machine.specs.Machine.{with_fpscr}
use Rattle.machine.specs.Place.{control_of, control, core, state}
use Rattle.meaning.specs.Step.{Step, once}
use Rattle.meaning.specs.Tree.{Tree, go}
use Rattle.meaning.proofs.Laws.{marked-ask, marked_family, marked-once, marked-stop}
use Rattle.numbers.specs.declared.arithmetic.Arithmetic.{Arithmetic}
use Rattle.sign_steps.specs.declared.sign.SignOperation.{SignOperation}
use Rattle.sign_steps.specs.declared.sign.SignOperation.TheVariants.{Copy, Absolute, Negate}
use Rattle.short_vectors.specs.Vector.{iterations_of, monadic_step}
use Rattle.arithmetic_steps.specs.Arithmetic.{dyadic_step}
use Rattle.sign_steps.specs.Sign.{sign_step}
use Rattle.root_steps.specs.Root.{root_step}
use Rattle.compare_steps.specs.Compare.{compare_step, compare_zero_step}
use Rattle.integer_steps.specs.Integer.{from_step, truncate_step, round_step}
use Rattle.decoding.specs.declared.operation.Operation.{Operation}
use Rattle.decoding.specs.declared.operation.Operation.TheVariants.{Fsqrt, Fcvt}
use Rattle.decoding.specs.declared.operation.Operation.TheVariants as O
use Rattle.register_fields.specs.Fields.{reg_d, reg_n, reg_m}
use Rattle.decoding.specs.Operation.{number_of, operation_numbered, arithmetic_of}
use Rattle.decoding.specs.contracts.operation.Operation.{the_type}
use Rattle.decoding.proofs.Named.{each, one_of}
use Rattle.place_marks.specs.Word.{map_in}
use Rattle.processing.specs.Data.{stepping, dyadic, monadic, undefined_tree, operation_tree, named_tree, convert_step}
use Rattle.processing_marks.specs.Marked.{Marked, MarksStepped, MarksIterated}

module _ (fpscr m m' : ℕ) (t : Bool → Tree) where
  stepping-Marked : (f : Format) (d : ℕ) (each : ℕ → ℕ → Step) → ((thumb : Bool) → t thumb ≡ stepping f d each)
      → MarksIterated (iterations_of f (control_of fpscr) d) (each (control_of fpscr)) m m'
      → Marked t fpscr m m'
  stepping-Marked f d each e h thumb q v w =
      rw (e thumb)
      (marked-ask control _ (state (with_fpscr q fpscr) v) (map_in m w) _
      (marked_family _ (each (control_of fpscr)) (state (with_fpscr q fpscr) v) (map_in m w) _ (h w)))

  pub dyadic-Marked : (f : Format) (w₀ : ℕ) (kind : Arithmetic) → ((thumb : Bool) → t thumb ≡ dyadic f w₀ kind)
      → MarksIterated (iterations_of f (control_of fpscr) (reg_d f w₀)) (dyadic_step f (control_of fpscr) kind (reg_d f w₀) (reg_n f w₀) (reg_m f w₀)) m m'
      → Marked t fpscr m m'
  dyadic-Marked f w₀ kind e h = stepping-Marked f (reg_d f w₀) (λ c. dyadic_step f c kind (reg_d f w₀) (reg_n f w₀) (reg_m f w₀)) e h

  pub monadic-Marked : (f : Format) (w₀ : ℕ) (one : ℕ → ℕ → ℕ → Step) → ((thumb : Bool) → t thumb ≡ monadic f w₀ one)
      → MarksIterated (iterations_of f (control_of fpscr) (reg_d f w₀)) (monadic_step f (control_of fpscr) (one (control_of fpscr)) (reg_d f w₀) (reg_m f w₀)) m m'
      → Marked t fpscr m m'
  monadic-Marked f w₀ one e h = stepping-Marked f (reg_d f w₀) (λ c. monadic_step f c (one c) (reg_d f w₀) (reg_m f w₀)) e h

  pub once-Marked : (x : Step) → ((thumb : Bool) → t thumb ≡ go (once x)) → MarksStepped x m m' → Marked t fpscr m m'
  once-Marked x e h thumb q v w = rw (e thumb) (marked-once x (state (with_fpscr q fpscr) v) (map_in m w) _ (h w))

-- an Undefined word changes no mark
pub undefined_Marked : (fpscr m : ℕ) (t : Bool → Tree) (w₀ : ℕ) → ((thumb : Bool) → t thumb ≡ undefined_tree thumb w₀) → Marked t fpscr m m
undefined_Marked fpscr m t w₀ e thumb q v w =
    rw (e thumb) (marked-ask (core 15) _ (state (with_fpscr q fpscr) v) (map_in m w) _ (marked-stop _ (state (with_fpscr q fpscr) v) (map_in m w)))

-- the same word under another tree that is equal
pub Marked-as : (t u : Bool → Tree) (fpscr m m' : ℕ) → ((thumb : Bool) → u thumb ≡ t thumb) → Marked t fpscr m m' → Marked u fpscr m m'
Marked-as t u fpscr m m' e h thumb q v w = rw (e thumb) (h thumb q v w)

-- ---- by the operation

-- what becomes of the sign
abbrev sign_of : Operation → SignOperation
sign_of o = cond (eqb (number_of o) 10) Copy (cond (eqb (number_of o) 11) Absolute Negate)

module _ (f : Format) (w fpscr m m' : ℕ) (o : Operation) where
  abbrev Marks : Type 0
  Marks = Marked (named_tree f w o) fpscr m m'

  pub arithmetic : (k : Arithmetic) → k ≡ arithmetic_of o → OneOf (1 ∷ 2 ∷ 3 ∷ 4 ∷ 5 ∷ 6 ∷ 7 ∷ 8 ∷ 9 ∷ []) (tag_of the_type o)
      → MarksIterated (iterations_of f (control_of fpscr) (reg_d f w)) (dyadic_step f (control_of fpscr) k (reg_d f w) (reg_n f w) (reg_m f w)) m m' → Marks
  unfolding operation_tree operation_numbered
  arithmetic k e h g =
      dyadic-Marked fpscr m m' (named_tree f w o) f w (arithmetic_of o)
      (λ thumb. one_of (λ p. operation_tree thumb f w p) (λ p. dyadic f w (arithmetic_of p)) (1 ∷ 2 ∷ 3 ∷ 4 ∷ 5 ∷ 6 ∷ 7 ∷ 8 ∷ 9 ∷ []) o h refl) (rw (← e) g)

  pub signed : OneOf (10 ∷ 11 ∷ 12 ∷ []) (tag_of the_type o)
      → ((sign : SignOperation) → MarksIterated (iterations_of f (control_of fpscr) (reg_d f w)) (monadic_step f (control_of fpscr) (sign_step f sign) (reg_d f w) (reg_m f w)) m m') → Marks
  unfolding operation_tree operation_numbered
  signed h g =
      monadic-Marked fpscr m m' (named_tree f w o) f w (λ c. sign_step f (sign_of o))
      (λ thumb. one_of (λ p. operation_tree thumb f w p) (λ p. monadic f w (λ c. sign_step f (sign_of p))) (10 ∷ 11 ∷ 12 ∷ []) o h refl) (g (sign_of o))

  pub rooted : o ≡ Fsqrt → MarksIterated (iterations_of f (control_of fpscr) (reg_d f w)) (monadic_step f (control_of fpscr) (root_step f (control_of fpscr)) (reg_d f w) (reg_m f w)) m m' → Marks
  unfolding operation_tree
  rooted e g = monadic-Marked fpscr m m' (named_tree f w o) f w (root_step f) (λ thumb. rw e) g

  -- a word of one step, whichever of some operations it is
  once_of : (ks : List ℕ) (x : Operation → Step) → OneOf ks (tag_of the_type o) → ((thumb : Bool) → each (λ p. operation_tree thumb f w p) ks ≡ each (λ p. go (once (x p))) ks)
      → MarksStepped (x o) m m' → Marks
  once_of ks x h e g = once-Marked fpscr m m' (named_tree f w o) (x o) (λ thumb. one_of (λ p. operation_tree thumb f w p) (λ p. go (once (x p))) ks o h (e thumb)) g

  pub compared : OneOf (14 ∷ 15 ∷ []) (tag_of the_type o) → ((any : Bool) → MarksStepped (compare_step f any (reg_d f w) (reg_m f w)) m m') → Marks
  unfolding operation_tree operation_numbered
  compared h g = once_of (14 ∷ 15 ∷ []) (λ p. compare_step f (eqb (number_of p) 15) (reg_d f w) (reg_m f w)) h (λ thumb. refl) (g (eqb (number_of o) 15))

  pub compared_zero : OneOf (16 ∷ 17 ∷ []) (tag_of the_type o) → ((any : Bool) → MarksStepped (compare_zero_step f any (reg_d f w)) m m') → Marks
  unfolding operation_tree operation_numbered
  compared_zero h g = once_of (16 ∷ 17 ∷ []) (λ p. compare_zero_step f (eqb (number_of p) 17) (reg_d f w)) h (λ thumb. refl) (g (eqb (number_of o) 17))

  pub converted : o ≡ Fcvt → MarksStepped (convert_step f w) m m' → Marks
  unfolding operation_tree
  converted e g = once-Marked fpscr m m' (named_tree f w o) (convert_step f w) (λ thumb. rw e) g

  pub from_integer : OneOf (19 ∷ 20 ∷ []) (tag_of the_type o) → ((sign : Bool) → MarksStepped (from_step f sign (reg_d f w) (reg_m binary32 w)) m m') → Marks
  unfolding operation_tree operation_numbered
  from_integer h g = once_of (19 ∷ 20 ∷ []) (λ p. from_step f (eqb (number_of p) 20) (reg_d f w) (reg_m binary32 w)) h (λ thumb. refl) (g (eqb (number_of o) 20))

  pub rounded : OneOf (21 ∷ 23 ∷ []) (tag_of the_type o) → ((sign : Bool) → MarksStepped (round_step f sign (reg_d binary32 w) (reg_m f w)) m m') → Marks
  unfolding operation_tree operation_numbered
  rounded h g = once_of (21 ∷ 23 ∷ []) (λ p. round_step f (eqb (number_of p) 23) (reg_d binary32 w) (reg_m f w)) h (λ thumb. refl) (g (eqb (number_of o) 23))

  pub truncated : OneOf (22 ∷ 24 ∷ []) (tag_of the_type o) → ((sign : Bool) → MarksStepped (truncate_step f sign (reg_d binary32 w) (reg_m f w)) m m') → Marks
  unfolding operation_tree operation_numbered
  truncated h g = once_of (22 ∷ 24 ∷ []) (λ p. truncate_step f (eqb (number_of p) 24) (reg_d binary32 w) (reg_m f w)) h (λ thumb. refl) (g (eqb (number_of o) 24))

-- an Undefined operation changes no mark
pub undefined : (f : Format) (w fpscr m : ℕ) (o : Operation) → o ≡ O.Undefined → Marked (named_tree f w o) fpscr m m
unfolding operation_tree
undefined f w fpscr m o e = undefined_Marked fpscr m (named_tree f w o) w (λ thumb. rw e)
