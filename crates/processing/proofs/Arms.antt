-- The operations: from what a step or its iterations do to what the operation means, over the precision.
use Prim.Native.Nat.{ℕ}
use mathlib.Core.Path.{◌≡◌, refl}
use mathlib.Core.Bool.{Bool, true, false, cond}
use mathlib.Core.List.{List, [], ◌∷◌}
use lib.Ieee.{Format, binary32, binary64}
use denote.Enum.Declared.{tag_of}
use types.Run.{OneOf}
use Rattle.machine.specs.Place.{control_of}
use Rattle.machine.specs.Machine.{with_fpscr}
use Rattle.numbers.specs.declared.arithmetic.Arithmetic.{Arithmetic}
use Rattle.meaning.specs.Step.{Step, once}
use Rattle.meaning.specs.Tree.{go}
use Rattle.sign_steps.specs.declared.sign.SignOperation.{SignOperation}
use Rattle.sign_steps.specs.declared.sign.SignOperation.TheVariants.{Copy, Absolute, Negate}
use Rattle.short_vectors.specs.Vector.{iterations_of, monadic_step}
use Rattle.short_vectors.specs.Register.{SteppedWith, Iterated, IteratedWith}
use Rattle.arithmetic_steps.specs.Arithmetic.{dyadic_step}
use Rattle.sign_steps.specs.Sign.{sign_step}
use Rattle.root_steps.specs.Root.{root_step}
use Rattle.compare_steps.specs.Compare.{compare_step, compare_zero_step}
use Rattle.width_steps.specs.Width.{widen_step, narrow_step}
use Rattle.integer_steps.specs.Integer.{from_step, truncate_step, round_step}
use Rattle.decoding.specs.declared.operation.Operation.{Operation}
use Rattle.decoding.specs.declared.operation.Operation.TheVariants.{Fcpy, Fabs, Fneg, Fsqrt, Fcmp, Fcmpe, Fcmpz, Fcmpez, Fcvt, Fuito, Fsito, Ftoui, Ftouiz, Ftosi, Ftosiz}
use Rattle.decoding.specs.declared.operation.Operation.TheVariants as O
use Rattle.register_fields.specs.Fields.{reg_d, reg_n, reg_m}
use Rattle.decoding.specs.Operation.{operation_numbered, arithmetic_of}
use Rattle.decoding.specs.contracts.operation.Operation.{the_type}
use Rattle.decoding.proofs.Named.{one_of}
use Rattle.processing.specs.Data.{convert_step, operation_tree, named_tree, dyadic, monadic, Handled}
use Rattle.processing.specs.declared.Processed.TheVariants.{Done, Undefined}
use Rattle.processing.proofs.Done.{dyadic_done, monadic_done, once_done}

-- of an operation o of a word w, with the singles s and FPSCR before it, and after it
module _ (f : Format) (w : ℕ) (s : List ℕ) (fpscr : ℕ) (s' : List ℕ) (o : Operation) where
  abbrev Does : ℕ → Type 0
  Does fpscr' = Handled (named_tree f w o) w s fpscr s' (Done fpscr')

  module _ {d n m : ℕ} {k : Arithmetic} (k' : k ≡ arithmetic_of o) (d' : d ≡ reg_d f w) (n' : n ≡ reg_n f w) (m' : m ≡ reg_m f w) where
    pub arithmetic : OneOf (1 ∷ 2 ∷ 3 ∷ 4 ∷ 5 ∷ 6 ∷ 7 ∷ 8 ∷ 9 ∷ []) (tag_of the_type o)
        → (fpscr' : ℕ) → IteratedWith (iterations_of f (control_of fpscr) d) (dyadic_step f (control_of fpscr) k d n m) fpscr s fpscr' s' → Does fpscr'
    unfolding operation_tree operation_numbered
    arithmetic h fpscr' =
        dyadic_done w s fpscr s' fpscr' (named_tree f w o) f (arithmetic_of o) k d n m
        (λ thumb. one_of (λ o. operation_tree thumb f w o) (λ o. dyadic f w (arithmetic_of o)) (1 ∷ 2 ∷ 3 ∷ 4 ∷ 5 ∷ 6 ∷ 7 ∷ 8 ∷ 9 ∷ []) o h refl) k' d' n' m'

  module _ {d m : ℕ} (d' : d ≡ reg_d f w) (m' : m ≡ reg_m f w) where
    iterated : (fpscr' : ℕ) (one : ℕ → ℕ → ℕ → Step) → ((thumb : Bool) → named_tree f w o thumb ≡ monadic f w one)
        → IteratedWith (iterations_of f (control_of fpscr) d) (monadic_step f (control_of fpscr) (one (control_of fpscr)) d m) fpscr s fpscr' s' → Does fpscr'
    iterated fpscr' one e = monadic_done w s fpscr s' fpscr' (named_tree f w o) f one d m e d' m'

    -- moves and sign changes leave FPSCR as it is
    abbrev Signed : SignOperation → Type 0
    Signed sign = Iterated (iterations_of f (control_of fpscr) d) (monadic_step f (control_of fpscr) (sign_step f sign) d m) s s' → Does fpscr

    signed : (sign : SignOperation) → ((thumb : Bool) → named_tree f w o thumb ≡ monadic f w (λ c. sign_step f sign)) → Signed sign
    signed sign e h = iterated fpscr (λ c. sign_step f sign) e (λ q v. h (with_fpscr q fpscr) v)

    pub copied : o ≡ Fcpy → Signed Copy
    unfolding operation_tree
    copied e = signed Copy (λ thumb. rw e)

    pub absolute : o ≡ Fabs → Signed Absolute
    unfolding operation_tree
    absolute e = signed Absolute (λ thumb. rw e)

    pub negated : o ≡ Fneg → Signed Negate
    unfolding operation_tree
    negated e = signed Negate (λ thumb. rw e)

    pub rooted : o ≡ Fsqrt → (fpscr' : ℕ)
        → IteratedWith (iterations_of f (control_of fpscr) d) (monadic_step f (control_of fpscr) (root_step f (control_of fpscr)) d m) fpscr s fpscr' s' → Does fpscr'
    unfolding operation_tree
    rooted e fpscr' = iterated fpscr' (root_step f) (λ thumb. rw e)

  -- a word of one step
  module _ {d m d₁ m₁ : ℕ} (d' : d ≡ d₁) (m' : m ≡ m₁) where
    stepped : (one : ℕ → ℕ → Step) → ((thumb : Bool) → named_tree f w o thumb ≡ go (once (one d₁ m₁))) → (fpscr' : ℕ) → SteppedWith (one d m) fpscr s fpscr' s' → Does fpscr'
    stepped one e fpscr' = once_done w s fpscr s' fpscr' (named_tree f w o) one d m d₁ m₁ e d' m'

  pub compared : {d m : ℕ} → d ≡ reg_d f w → m ≡ reg_m f w → (any : Bool) → o ≡ cond any Fcmpe Fcmp → (fpscr' : ℕ) → SteppedWith (compare_step f any d m) fpscr s fpscr' s' → Does fpscr'
  unfolding operation_tree
  compared d' m' true e = stepped d' m' (compare_step f true) (λ thumb. rw e)
  compared d' m' false e = stepped d' m' (compare_step f false) (λ thumb. rw e)

  zero_is : ◌≡◌ {A = ℕ} 0 0
  zero_is = refl

  pub compared_zero : {d : ℕ} → d ≡ reg_d f w → (any : Bool) → o ≡ cond any Fcmpez Fcmpz → (fpscr' : ℕ) → SteppedWith (compare_zero_step f any d) fpscr s fpscr' s' → Does fpscr'
  unfolding operation_tree
  compared_zero d' true e = stepped d' zero_is (λ d m. compare_zero_step f true d) (λ thumb. rw e)
  compared_zero d' false e = stepped d' zero_is (λ d m. compare_zero_step f false d) (λ thumb. rw e)

  module _ {d m : ℕ} (d' : d ≡ reg_d f w) (m' : m ≡ reg_m binary32 w) where
    pub from_integer : (sign : Bool) → o ≡ cond sign Fsito Fuito → (fpscr' : ℕ) → SteppedWith (from_step f sign d m) fpscr s fpscr' s' → Does fpscr'
    unfolding operation_tree
    from_integer true e = stepped d' m' (from_step f true) (λ thumb. rw e)
    from_integer false e = stepped d' m' (from_step f false) (λ thumb. rw e)

  module _ {d m : ℕ} (d' : d ≡ reg_d binary32 w) (m' : m ≡ reg_m f w) where
    pub rounded : (sign : Bool) → o ≡ cond sign Ftosi Ftoui → (fpscr' : ℕ) → SteppedWith (round_step f sign d m) fpscr s fpscr' s' → Does fpscr'
    unfolding operation_tree
    rounded true e = stepped d' m' (round_step f true) (λ thumb. rw e)
    rounded false e = stepped d' m' (round_step f false) (λ thumb. rw e)

    pub truncated : (sign : Bool) → o ≡ cond sign Ftosiz Ftouiz → (fpscr' : ℕ) → SteppedWith (truncate_step f sign d m) fpscr s fpscr' s' → Does fpscr'
    unfolding operation_tree
    truncated true e = stepped d' m' (truncate_step f true) (λ thumb. rw e)
    truncated false e = stepped d' m' (truncate_step f false) (λ thumb. rw e)

  -- between the widths, by the width that the word's own is
  pub converted : o ≡ Fcvt → (fpscr' : ℕ) → SteppedWith (convert_step f w) fpscr s fpscr' s' → Does fpscr'
  unfolding operation_tree
  converted e = stepped zero_is zero_is (λ d m. convert_step f w) (λ thumb. rw e)

  pub undefined : o ≡ O.Undefined → Handled (named_tree f w o) w s fpscr s Undefined
  unfolding operation_tree
  undefined e = (refl, λ thumb. rw e)

-- between the widths: coprocessor 10 widens, 11 narrows
module _ (w : ℕ) (s : List ℕ) (fpscr : ℕ) (s' : List ℕ) (o : Operation) {d m : ℕ} where
  pub widened : d ≡ reg_d binary64 w → m ≡ reg_m binary32 w → o ≡ Fcvt → (fpscr' : ℕ) → SteppedWith (widen_step d m) fpscr s fpscr' s' → Does binary32 w s fpscr s' o fpscr'
  unfolding operation_tree
  widened d' m' e = stepped binary32 w s fpscr s' o d' m' widen_step (λ thumb. rw e)

  pub narrowed : d ≡ reg_d binary32 w → m ≡ reg_m binary64 w → o ≡ Fcvt → (fpscr' : ℕ) → SteppedWith (narrow_step d m) fpscr s fpscr' s' → Does binary64 w s fpscr s' o fpscr'
  unfolding operation_tree
  narrowed d' m' e = stepped binary64 w s fpscr s' o d' m' narrow_step (λ thumb. rw e)
