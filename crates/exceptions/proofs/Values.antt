-- What a rounded result raises, and what sum, product and quotient raise by any fractions that their operands equal. Over the mode and the format.
-- Assumes nothing.
use mathlib.Core.Path.{◌≡◌, sym, ap, ◌∙◌}
use mathlib.Core.Bool.{Bool, cond}
use Prim.Native.Nat.{ℕ, ◌*◌, ◌<◌}
use lib.Dec.{eqb}
use lib.Ieee.{Float, nan, inf, fin, Format, unlike, to_bits}
use lib.Ieee.Exact.{HasValue}
use Rattle.rounding.specs.Rounding.{rounded, exact, over, tiny}
use Rattle.rounding.specs.declared.rounding.Rounding.{Rounding}
use Rattle.packing.specs.Pack.{IsSettled}
use Rattle.operators.specs.Operators.{sum_size, sum_sign, sum, product, quotient}
use Rattle.packing.proofs.Written.{exact_same, over_same, tiny_same}
use Rattle.operators.proofs.Values.{Steady, product_same, product_at, quotient_same, quotient_at}
use Rattle.operators.proofs.Sums.{IsSigned, values_same, sum_at}
use Rattle.exceptions.specs.Exceptions.{invalid, division_by_zero, settled_exceptions, fraction_exceptions}
use Rattle.exceptions.specs.Operators.{sum_exceptions, product_exceptions, quotient_exceptions}

alike : (x y o p t u : Bool) → x ≡ y → o ≡ p → t ≡ u → settled_exceptions x o t ≡ settled_exceptions y p u
alike x y o p t u a b c = ap (λ (z : Bool). settled_exceptions z o t) a ∙ ap (λ (z : Bool). settled_exceptions y z t) b ∙ ap (λ (z : Bool). settled_exceptions y p z) c

-- what rounding told is what is raised
settled_raises : (mode : Rounding) (f : Format) (s : Bool) (num den bits : ℕ) (x o t : Bool) → IsSettled mode f s num den bits x o t → settled_exceptions x o t ≡ fraction_exceptions mode f s num den
unfolding fraction_exceptions
settled_raises mode f s num den bits x o t p = alike x (exact f num den) o (over mode f s num den) t (tiny f num den) p.exact_is p.over_is p.tiny_is

-- equal fractions raise alike
fraction_same : (mode : Rounding) (f : Format) → Steady (fraction_exceptions mode f)
unfolding fraction_exceptions
fraction_same mode f s a b c d B D e =
    alike (exact f a b) (exact f c d) (over mode f s a b) (over mode f s c d) (tiny f a b) (tiny f c d) (exact_same mode f s a b c d B D e) (over_same mode f s a b c d B D e) (tiny_same mode f s a b c d B D e)

-- the word and the exceptions of what equals a fraction
settles : (mode : Rounding) (f : Format) (s : Bool) (num den bits : ℕ) (i o j : Bool) (v : Float) (raised : ℕ) → v ≡ rounded mode f s num den → raised ≡ fraction_exceptions mode f s num den
    → IsSettled mode f s num den bits i o j → (bits ≡ to_bits f v) × (settled_exceptions i o j ≡ raised)
settles mode f s num den bits i o j v raised h k p = (p.bits_are ∙ ap (to_bits f) (sym h), settled_raises mode f s num den bits i o j p ∙ sym k)

-- a word and what was raised, handed on
pub handed : {r w v x e u : ℕ} → (r ≡ w) × (x ≡ e) → (w ≡ v) × (e ≡ u) → (r ≡ v) × (x ≡ u)
handed p q = (p.0 ∙ q.0, p.1 ∙ q.1)

module _ (mode : Rounding) (f : Format) where
  pub sum_raises : (x y : Float) (s t : Bool) (a b c : ℕ) → 0 < c → HasValue x s a c → HasValue y t b c
      → sum_exceptions mode f x y ≡ fraction_exceptions mode f (sum_sign mode s a t b) (sum_size s a t b) c
  unfolding sum_exceptions
  sum_raises nan y s t a b c C h k = absurd h
  sum_raises (inf u) y s t a b c C h k = absurd h
  sum_raises (fin u m e) nan s t a b c C h k = absurd k
  sum_raises (fin u m e) (inf v) s t a b c C h k = absurd k
  sum_raises (fin u m e) (fin v n g) s t a b c C h k = values_same (fraction_exceptions mode f) (fraction_same mode f) mode u m e v n g s t a b c C h k

  pub product_raises : (x y : Float) (s t : Bool) (a c b d : ℕ) → 0 < c → 0 < d → HasValue x s a c → HasValue y t b d
      → product_exceptions mode f x y ≡ fraction_exceptions mode f (unlike s t) (a * b) (c * d)
  unfolding product_exceptions
  product_raises nan y s t a c b d C D h k = absurd h
  product_raises (inf u) y s t a c b d C D h k = absurd h
  product_raises (fin u m e) nan s t a c b d C D h k = absurd k
  product_raises (fin u m e) (inf v) s t a c b d C D h k = absurd k
  product_raises (fin u m e) (fin v n g) s t a c b d C D h k = product_same (fraction_exceptions mode f) (fraction_same mode f) u m e v n g s t a c b d C D h k

  pub quotient_raises : (x y : Float) (s t : Bool) (a c b d : ℕ) → 0 < c → 0 < d → 0 < b → HasValue x s a c → HasValue y t b d
      → quotient_exceptions mode f x y ≡ fraction_exceptions mode f (unlike s t) (a * d) (b * c)
  unfolding quotient_exceptions
  quotient_raises nan y s t a c b d C D B h k = absurd h
  quotient_raises (inf u) y s t a c b d C D B h k = absurd h
  quotient_raises (fin u m e) nan s t a c b d C D B h k = absurd k
  quotient_raises (fin u m e) (inf v) s t a c b d C D B h k = absurd k
  quotient_raises (fin u m e) (fin v n g) s t a c b d C D B h k =
      quotient_same (fraction_exceptions mode f) (cond (eqb m 0) invalid division_by_zero) (fraction_same mode f) u m e v n g s t a c b d C D B h k

  -- the word and what was raised, once the exact result is settled
  pub sum_settles : (x y : Float) (s t : Bool) (a b c : ℕ) (σ : Bool) (n bits : ℕ) (i o j : Bool) → 0 < c → HasValue x s a c → HasValue y t b c → IsSigned mode s a t b σ n
      → IsSettled mode f σ n c bits i o j → (bits ≡ to_bits f (sum mode f x y)) × (settled_exceptions i o j ≡ sum_exceptions mode f x y)
  sum_settles x y s t a b c σ n bits i o j C h k w =
      settles mode f σ n c bits i o j (sum mode f x y) (sum_exceptions mode f x y) (sum_at mode f x y s t a b c C h k ∙ signed (rounded mode f)) (sum_raises x y s t a b c C h k ∙ signed (fraction_exceptions mode f))
    where
      signed : {A : Type 0} (give : Bool → ℕ → ℕ → A) → give (sum_sign mode s a t b) (sum_size s a t b) c ≡ give σ n c
      signed give = ap (λ (z : Bool). give z (sum_size s a t b) c) w.0 ∙ ap (λ (z : ℕ). give σ z c) w.1

  pub product_settles : (x y : Float) (s t : Bool) (a c b d bits : ℕ) (i o j : Bool) → 0 < c → 0 < d → HasValue x s a c → HasValue y t b d
      → IsSettled mode f (unlike s t) (a * b) (c * d) bits i o j → (bits ≡ to_bits f (product mode f x y)) × (settled_exceptions i o j ≡ product_exceptions mode f x y)
  product_settles x y s t a c b d bits i o j C D h k =
      settles mode f (unlike s t) (a * b) (c * d) bits i o j (product mode f x y) (product_exceptions mode f x y) (product_at mode f x y s t a c b d C D h k) (product_raises x y s t a c b d C D h k)

  pub quotient_settles : (x y : Float) (s t : Bool) (a c b d bits : ℕ) (i o j : Bool) → 0 < c → 0 < d → 0 < b → HasValue x s a c → HasValue y t b d
      → IsSettled mode f (unlike s t) (a * d) (b * c) bits i o j → (bits ≡ to_bits f (quotient mode f x y)) × (settled_exceptions i o j ≡ quotient_exceptions mode f x y)
  quotient_settles x y s t a c b d bits i o j C D B h k =
      settles mode f (unlike s t) (a * d) (b * c) bits i o j (quotient mode f x y) (quotient_exceptions mode f x y) (quotient_at mode f x y s t a c b d C D B h k) (quotient_raises x y s t a c b d C D B h k)
