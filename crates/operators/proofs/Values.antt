-- A product and a quotient by any fractions that its operands equal. Over the mode and the format. Assumes nothing.
use mathlib.Core.Path.{◌≡◌, sym, ap, ◌∙◌}
use mathlib.Core.Bool.{Bool, cond}
use Prim.Native.Nat.{ℕ, zero, suc, ◌*◌, ◌<◌}
use native.Mathlib.Nat.{mul-pos, mul-mul-mul_comm, zero-mul, zero-lt-suc}
use native.Mathlib.Omega.{arith}
use borrow.Author.Tests.{ne_eqb}
use lib.Dec.{eqb}
use lib.IntN.{ℤ}
use lib.Ieee.{Float, nan, inf, fin, Format, up, down, unlike}
use lib.Ieee.Fits.{down_pos, up_pos}
use lib.Ieee.Exact.{HasValue}
use Rattle.rounding.specs.Rounding.{rounded}
use Rattle.rounding.specs.declared.rounding.Rounding.{Rounding}
use Rattle.packing.proofs.Written.{rounded_same}
use Rattle.operators.specs.Operators.{product, quotient}

-- what gives the same of equal fractions of one sign, as rounding does
abbrev pub Steady : {A : Type 0} → (Bool → ℕ → ℕ → A) → Type 0
Steady give = (s : Bool) (a b c d : ℕ) → 0 < b → 0 < d → a * d ≡ c * b → give s a b ≡ give s c d

pub product_same : {A : Type 0} (give : Bool → ℕ → ℕ → A) → Steady give
    → (u : Bool) (m : ℕ) (e : ℤ) (v : Bool) (n : ℕ) (g : ℤ) (s t : Bool) (a c b d : ℕ) → 0 < c → 0 < d → HasValue (fin u m e) s a c → HasValue (fin v n g) t b d
    → give (unlike u v) (m * up e * (n * up g)) (down e * down g) ≡ give (unlike s t) (a * b) (c * d)
product_same give same u m e v n g s t a c b d C D h k =
    ap (λ (w : Bool). give (unlike w v) (m * up e * (n * up g)) (down e * down g)) h.0
    ∙ ap (λ (w : Bool). give (unlike s w) (m * up e * (n * up g)) (down e * down g)) k.0
    ∙ same (unlike s t) (m * up e * (n * up g)) (down e * down g) (a * b) (c * d) (mul-pos (down_pos e) (down_pos g)) (mul-pos C D)
    (mul-mul-mul_comm (m * up e) (n * up g) c d ∙ ap (λ (z : ℕ). z * (n * up g * d)) h.1 ∙ ap (λ (z : ℕ). a * down e * z) k.1 ∙ mul-mul-mul_comm a (down e) b (down g))

pub product_at : (mode : Rounding) (f : Format) (x y : Float) (s t : Bool) (a c b d : ℕ) → 0 < c → 0 < d → HasValue x s a c → HasValue y t b d
    → product mode f x y ≡ rounded mode f (unlike s t) (a * b) (c * d)
unfolding product
product_at mode f nan y s t a c b d C D h k = absurd h
product_at mode f (inf u) y s t a c b d C D h k = absurd h
product_at mode f (fin u m e) nan s t a c b d C D h k = absurd k
product_at mode f (fin u m e) (inf v) s t a c b d C D h k = absurd k
product_at mode f (fin u m e) (fin v n g) s t a c b d C D h k = product_same (rounded mode f) (rounded_same mode f) u m e v n g s t a c b d C D h k

-- a value's digits are not 0 where its size is not
pub digits_pos : (n u d b g : ℕ) → 0 < b → 0 < g → n * u * d ≡ b * g → 0 < n
digits_pos zero u d b g B G e = absurd (no (b * g) (mul-pos B G) (sym e ∙ ap (λ (x : ℕ). x * d) (zero-mul u) ∙ zero-mul d))
  where
    no : (x : ℕ) → 0 < x → x ≡ 0 → ⊥
    no x h k = omega arith
digits_pos (suc n) u d b g B G e = zero-lt-suc n

-- of a divisor that is not 0, which its digits tell
pub quotient_same : {A : Type 0} (give : Bool → ℕ → ℕ → A) (none : A) → Steady give
    → (u : Bool) (m : ℕ) (e : ℤ) (v : Bool) (n : ℕ) (g : ℤ) (s t : Bool) (a c b d : ℕ) → 0 < c → 0 < d → 0 < b → HasValue (fin u m e) s a c → HasValue (fin v n g) t b d
    → cond (eqb n 0) none (give (unlike u v) (m * up e * down g) (n * up g * down e)) ≡ give (unlike s t) (a * d) (b * c)
quotient_same give none same u m e v n g s t a c b d C D B h k =
    let N : 0 < n = digits_pos n (up g) d b (down g) B (down_pos g) k.1 in
    ap (λ (w : Bool). cond w none (give (unlike u v) (m * up e * down g) (n * up g * down e))) (ne_eqb n 0 (not_zero n N))
    ∙ ap (λ (w : Bool). give (unlike w v) (m * up e * down g) (n * up g * down e)) h.0
    ∙ ap (λ (w : Bool). give (unlike s w) (m * up e * down g) (n * up g * down e)) k.0
    ∙ same (unlike s t) (m * up e * down g) (n * up g * down e) (a * d) (b * c) (mul-pos (mul-pos N (up_pos g)) (down_pos e)) (mul-pos B C)
    (first (m * up e) (down g) b c ∙ ap (λ (z : ℕ). z * (b * down g)) h.1 ∙ ap (λ (z : ℕ). a * down e * z) (sym k.1) ∙ last a (down e) (n * up g) d)
  where
    not_zero : (n : ℕ) → 0 < n → n ≡ 0 → ⊥
    not_zero n h e = omega arith

    first : (x g b c : ℕ) → x * g * (b * c) ≡ x * c * (b * g)
    first x g b c = omega arith

    last : (a e y d : ℕ) → a * e * (y * d) ≡ a * d * (y * e)
    last a e y d = omega arith

pub quotient_at : (mode : Rounding) (f : Format) (x y : Float) (s t : Bool) (a c b d : ℕ) → 0 < c → 0 < d → 0 < b → HasValue x s a c → HasValue y t b d
    → quotient mode f x y ≡ rounded mode f (unlike s t) (a * d) (b * c)
unfolding quotient
quotient_at mode f nan y s t a c b d C D B h k = absurd h
quotient_at mode f (inf u) y s t a c b d C D B h k = absurd h
quotient_at mode f (fin u m e) nan s t a c b d C D B h k = absurd k
quotient_at mode f (fin u m e) (inf v) s t a c b d C D B h k = absurd k
quotient_at mode f (fin u m e) (fin v n g) s t a c b d C D B h k =
    quotient_same (rounded mode f) (cond (eqb m 0) nan (inf (unlike u v))) (rounded_same mode f) u m e v n g s t a c b d C D B h k
