-- The stages of a step's arithmetic, put together: results and what they raise. Over the format. Assumes nothing.
use Rattle.std.proofs.Common.{◌≡◌, ℕ, Bool, true, false, ◌||◌, ap, ◌∙◌, subst}
use lib.Bits.{bit_or}
use lib.Ieee.{Float, Format, neg, of_bits, to_bits, nan_bits}
use Rattle.floats.specs.Flush.{flush}
use Rattle.rounding.specs.Rounding.{rounding_of}
use Rattle.rounding.specs.declared.rounding.Rounding.{Rounding}
use Rattle.operators.specs.Operators.{sum, difference}
use Rattle.nans.specs.Nan.{nan_of}
use Rattle.exceptions.specs.Exceptions.{nan_exceptions, flushed_exceptions}
use Rattle.exceptions.specs.Operators.{sum_exceptions, difference_exceptions, IsResult}
use Rattle.nans.proofs.Choosing.{numbers_operated, nans_operated}
use Rattle.exceptions.proofs.Nans.{numbers_raise, nans_raise}
use Rattle.numbers.specs.declared.arithmetic.Arithmetic.{Arithmetic}
use Rattle.directed.specs.Directed.{operated_by, applied_by, arithmetic_by}
use Rattle.directed.specs.Exceptions.{raised_by, first_exceptions, exceptions_by, IsOperated, IsAccumulated, IsComposed}

pub difference_by : (mode : Rounding) (f : Format) (a b c bits exceptions : ℕ) → IsResult f (sum mode f) (sum_exceptions mode f) a c bits exceptions → of_bits f c ≡ neg (of_bits f b)
    → IsResult f (difference mode f) (difference_exceptions mode f) a b bits exceptions
unfolding difference difference_exceptions
difference_by mode f a b c bits exceptions e p = (e.0 ∙ ap (λ (v : Float). to_bits f (sum mode f (of_bits f a) v)) p, e.1 ∙ ap (λ (v : Float). sum_exceptions mode f (of_bits f a) v) p)

-- ---- an operator on any words

module _ (op : Rounding → Format → Float → Float → Float) (raise : Rounding → Format → Float → Float → ℕ) (f : Format) (control a b bits exceptions : ℕ) (p q : Bool) (d : p ≡ nan_bits f a) (e : q ≡ nan_bits f b) where
  pub nans_give : (bits ≡ nan_of f control a b) × (exceptions ≡ nan_exceptions f a b) → (p || q) ≡ true → IsOperated op raise f control a b bits exceptions
  nans_give g h =
      (g.0 ∙ nans_operated f control (op (rounding_of control) f) a b p q d e h, g.1 ∙ nans_raise f (raise (rounding_of control) f) a b p q d e h)

  pub numbers_give : (mode : Rounding) → mode ≡ rounding_of control → IsResult f (op mode f) (raise mode f) a b bits exceptions → (p || q) ≡ false → IsOperated op raise f control a b bits exceptions
  numbers_give mode m g h =
      let k = subst (λ (z : Rounding). IsResult f (op z f) (raise z f) a b bits exceptions) m g in
      (k.0 ∙ numbers_operated f control (op (rounding_of control) f) a b p q d e h, k.1 ∙ numbers_raise f (raise (rounding_of control) f) a b p q d e h)

-- ---- the two forms of a step

pub accumulated_by : (f : Format) (control : ℕ) {a b x y raised z bits first last : ℕ} → a ≡ x → b ≡ y → raised ≡ z → IsAccumulated f control a b raised bits first last
    → IsAccumulated f control x y z bits first last
accumulated_by f control {a} {b} {x} {y} d e g h = (
  h.0 ∙ ap (λ (u : ℕ). operated_by sum f control u b) d ∙ ap (λ (u : ℕ). operated_by sum f control x u) e,
  h.1 ∙ g,
  h.2 ∙ ap (λ (u : ℕ). raised_by sum_exceptions f control u b) d ∙ ap (λ (u : ℕ). raised_by sum_exceptions f control x u) e,
)

pub alone_by : {bits r v first last raised u : ℕ} → (bits ≡ r) × (first ≡ 0) × (last ≡ raised) → (r ≡ v) × (raised ≡ u) → (bits ≡ v) × (first ≡ 0) × (last ≡ u)
alone_by h k = (h.0 ∙ k.0, h.1, h.2 ∙ k.1)

-- ---- as it is stored

pub stored : (f : Format) (control : ℕ) (kind : Arithmetic) (n m d bits first last word raised : ℕ) → IsComposed f control kind n m d bits first last → word ≡ flush f control bits
    → raised ≡ flushed_exceptions f control bits last → (word ≡ arithmetic_by f control kind n m d) × (bit_or first raised ≡ exceptions_by f control kind n m d)
unfolding arithmetic_by exceptions_by
stored f control kind n m d bits first last word raised h e g = (
  e ∙ ap (flush f control) h.0,
  ap (λ (z : ℕ). bit_or z raised) h.1
      ∙ ap (bit_or (first_exceptions f control kind n m))
      (g ∙ ap (λ (z : ℕ). flushed_exceptions f control z last) h.0 ∙ ap (flushed_exceptions f control (applied_by f control kind n m d)) h.2),
)
