-- The arithmetic of one step by the tests that the code makes. Over the format. Assumes nothing.
use mathlib.Core.Path.{◌≡◌, refl, sym, ap, ◌∙◌, subst}
use mathlib.Core.Bool.{Bool, true, false}
use lib.Dec.{T}
use Prim.Native.Nat.{ℕ}
use lib.Ieee.{Float, Format, of_bits, to_bits}
use Rattle.numbers.specs.Arithmetic.{apply, applied}
use Rattle.numbers.specs.declared.arithmetic.Arithmetic.{Arithmetic}

-- ---- the result's word

pub word_of_value : (f : Format) (kind : Arithmetic) (n m d : ℕ) → applied f kind n m d ≡ to_bits f (apply f kind (of_bits f n) (of_bits f m) (of_bits f d))
unfolding applied
word_of_value f kind n m d = refl

-- ---- what the code makes

module _ (f : Format) (kind : Arithmetic) (n m d : ℕ) where
  -- the floats' own operators
  pub worked : (v x y z : Float) → v ≡ apply f kind x y z → x ≡ of_bits f n → y ≡ of_bits f m → z ≡ of_bits f d → v ≡ apply f kind (of_bits f n) (of_bits f m) (of_bits f d)
  worked v x y z w p q s =
      w ∙ ap (λ (t : Float). apply f kind t y z) p ∙ ap (λ (t : Float). apply f kind (of_bits f n) t z) q ∙ ap (λ (t : Float). apply f kind (of_bits f n) (of_bits f m) t) s

  pub native : (r : ℕ) (v : Float) → r ≡ to_bits f v → v ≡ apply f kind (of_bits f n) (of_bits f m) (of_bits f d) → r ≡ applied f kind n m d
  unfolding applied
  native r v e w = e ∙ ap (to_bits f) w

-- what is not taken
pub not_taken : {A : Type 0} {t : Bool} → t ≡ false → t ≡ true → A
not_taken p h = absurd (subst T (sym h ∙ p) tt)
