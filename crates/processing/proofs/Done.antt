-- From what a leaf does to what its word means, over the precision.
use Prim.Native.Nat.{ℕ}
use mathlib.Core.Path.{◌≡◌, ◌∙◌}
use mathlib.Core.Bool.{Bool}
use mathlib.Core.List.{List}
use lib.Ieee.{Format, binary32, binary64}
use borrow.Author.Tests.{ne_eqb}
use Rattle.bits.specs.Field.{field}
use Rattle.machine.specs.Machine.{with_s, with_fpscr}
use Rattle.machine.specs.Place.{control_of, state}
use Rattle.numbers.specs.declared.arithmetic.Arithmetic.{Arithmetic}
use Rattle.meaning.specs.Step.{Step, once}
use Rattle.meaning.specs.Tree.{Tree, go}
use Rattle.meaning.proofs.Laws.{plain-ask, plain_family, plain-once}
use Rattle.processing.specs.declared.Processed.{Processed}
use Rattle.processing.specs.declared.Processed.TheVariants.{Done, Undefined}
use Rattle.short_vectors.specs.Vector.{iterations_of, monadic_step}
use Rattle.short_vectors.specs.Register.{SteppedWith, IteratedWith}
use Rattle.register_fields.specs.Fields.{reg_d, reg_n, reg_m}
use Rattle.arithmetic_steps.specs.Arithmetic.{dyadic_step}
use Rattle.processing.specs.Data.{stepping, dyadic, monadic, undefined_tree, data_tree, word_tree, Handled}

-- with the singles s and FPSCR before the word, and after it
module _ (w : ℕ) (s : List ℕ) (fpscr : ℕ) (s' : List ℕ) (fpscr' : ℕ) (t : Bool → Tree) where
  -- a stepping word
  stepping_done : (f : Format) (d : ℕ) (each : ℕ → ℕ → Step) → ((thumb : Bool) → t thumb ≡ stepping f d each)
      → IteratedWith (iterations_of f (control_of fpscr) d) (each (control_of fpscr)) fpscr s fpscr' s'
      → Handled t w s fpscr s' (Done fpscr')
  stepping_done f d each e h thumb q v = rw (e thumb) (plain-ask _ _ _ _ (plain_family _ (each (control_of fpscr)) (state (with_s (with_fpscr q fpscr) s) v) _ (h q v)))

  pub dyadic_done : (f : Format) (kind k : Arithmetic) (d n m : ℕ) → ((thumb : Bool) → t thumb ≡ dyadic f w kind) → k ≡ kind → d ≡ reg_d f w → n ≡ reg_n f w → m ≡ reg_m f w
      → IteratedWith (iterations_of f (control_of fpscr) d) (dyadic_step f (control_of fpscr) k d n m) fpscr s fpscr' s'
      → Handled t w s fpscr s' (Done fpscr')
  dyadic_done f kind k d n m e k' d' n' m' h =
      stepping_done f (reg_d f w) (λ c. dyadic_step f c kind (reg_d f w) (reg_n f w) (reg_m f w)) e (λ q v. rw (← k', ← d', ← n', ← m') (h q v))

  pub monadic_done : (f : Format) (one : ℕ → ℕ → ℕ → Step) (d m : ℕ) → ((thumb : Bool) → t thumb ≡ monadic f w one) → d ≡ reg_d f w → m ≡ reg_m f w
      → IteratedWith (iterations_of f (control_of fpscr) d) (monadic_step f (control_of fpscr) (one (control_of fpscr)) d m) fpscr s fpscr' s'
      → Handled t w s fpscr s' (Done fpscr')
  monadic_done f one d m e d' m' h =
      stepping_done f (reg_d f w) (λ c. monadic_step f c (one c) (reg_d f w) (reg_m f w)) e (λ q v. rw (← d', ← m') (h q v))

  -- a word of one step, of the registers d and m
  pub once_done : (one : ℕ → ℕ → Step) (d m d₁ m₁ : ℕ) → ((thumb : Bool) → t thumb ≡ go (once (one d₁ m₁))) → d ≡ d₁ → m ≡ m₁
      → SteppedWith (one d m) fpscr s fpscr' s'
      → Handled t w s fpscr s' (Done fpscr')
  once_done one d m d₁ m₁ e d' m' h thumb q v =
      rw (e thumb) (plain-once (one d₁ m₁) (state (with_s (with_fpscr q fpscr) s) v) _ (rw (← d', ← m') (h q v)))

-- the same word under another tree that is equal
pub Handled-as : (t u : Bool → Tree) (w : ℕ) (s : List ℕ) (fpscr : ℕ) (s' : List ℕ) (r : Processed) → ((thumb : Bool) → u thumb ≡ t thumb) → Handled t w s fpscr s' r → Handled u w s fpscr s' r
Handled-as t u w s fpscr s' (Done fpscr') e h = λ thumb q v. rw (e thumb) (h thumb q v)
Handled-as t u w s fpscr s' Undefined e h = (h.0, λ thumb. e thumb ∙ h.1 thumb)

-- ---- which tree a word has, by its coprocessor

module _ (w : ℕ) (thumb : Bool) (k : ℕ) (p : k ≡ field w 8 11) where
  pub data_single : k ≡ 10 → data_tree thumb w ≡ word_tree binary32 w thumb
  unfolding data_tree
  data_single e = rw (← p, e)

  pub data_double : k ≡ 11 → data_tree thumb w ≡ word_tree binary64 w thumb
  unfolding data_tree
  data_double e = rw (← p, e)

  pub data_none : (k ≡ 10 → ⊥) → (k ≡ 11 → ⊥) → data_tree thumb w ≡ undefined_tree thumb w
  unfolding data_tree
  data_none a b = rw (← p, ne_eqb _ _ a, ne_eqb _ _ b)
