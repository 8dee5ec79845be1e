-- Sums at NaNs, infinities and zeros, by the words. Over the mode and the format. Assumes nothing.
use mathlib.Core.Path.{◌≡◌, refl, sym, ap, ◌∙◌, subst}
use mathlib.Core.Bool.{Bool, true, false, cond, beq}
use Prim.Native.Nat.{ℕ, ◌+◌, ◌*◌, ◌/◌, ◌%◌, ◌^◌, ◌<◌}
use native.Mathlib.Nat.{zero-mul, add-zero}
use native.Mathlib.Omega.{arith}
use lib.Dec.{leb, lit<}
use lib.Pow.{pow_pos}
use lib.Ieee.{Float, nan, inf, fin, Format, low, hid, ones, top, unlike, of_bits}
use lib.Ieee.Exact.{HasValue}
use Rattle.rounding.specs.Rounding.{tiny}
use Rattle.rounding.specs.declared.rounding.Rounding.{Rounding}
use Rattle.operators.specs.Operators.{zero_sign, sum}
use Rattle.exceptions.specs.Exceptions.{invalid}
use Rattle.exceptions.specs.Operators.{sum_exceptions, IsResult}
use Rattle.digits.specs.Digits.{IsNumber}
use Rattle.floats.proofs.Units.{reads_zero}
use Rattle.operators.proofs.Sums.{IsSigned, sum_like, sum_none, zero_plus, plus_zero}
use Rattle.operators.proofs.Words.{nan_above, inf_at, word_is, sized, nan_bits, inf_bits, zero_settles, zero_size}
use Rattle.exceptions.proofs.Values.{sum_settles}
use Rattle.sums.proofs.Numbers.{beq_no, beq_yes}

-- a sum with a NaN, and one of an infinity and a size: the value, and that nothing is raised
sum-nan : (mode : Rounding) (f : Format) (v : Float) → (sum mode f v nan ≡ nan) × (sum_exceptions mode f v nan ≡ 0)
unfolding sum sum_exceptions
sum-nan mode f nan = (refl, refl)
sum-nan mode f (inf u) = (refl, refl)
sum-nan mode f (fin u m e) = (refl, refl)

inf_plus : (mode : Rounding) (f : Format) (s t : Bool) (v : Float) (c : ℕ) → HasValue v t c (2 ^ low f) → (sum mode f (inf s) v ≡ inf s) × (sum_exceptions mode f (inf s) v ≡ 0)
unfolding sum sum_exceptions
inf_plus mode f s t nan c h = absurd h
inf_plus mode f s t (inf u) c h = absurd h
inf_plus mode f s t (fin u m e) c h = (refl, refl)

plus_inf : (mode : Rounding) (f : Format) (s t : Bool) (v : Float) (c : ℕ) → HasValue v s c (2 ^ low f) → (sum mode f v (inf t) ≡ inf t) × (sum_exceptions mode f v (inf t) ≡ 0)
unfolding sum sum_exceptions
plus_inf mode f s t nan c h = absurd h
plus_inf mode f s t (inf u) c h = absurd h
plus_inf mode f s t (fin u m e) c h = (refl, refl)

some_of : (n : ℕ) → (n ≡ 0 → ⊥) → 0 < n
some_of n h = omega arith

module _ (mode : Rounding) (f : Format) (a b : ℕ) where
  abbrev x : Float
  x = of_bits f a

  abbrev y : Float
  y = of_bits f b

  abbrev s : Bool
  s = leb (top f) a

  abbrev t : Bool
  t = leb (top f) b

  abbrev Nan : ℕ → Type 0
  Nan c = ones f * hid f < c % top f

  abbrev Inf : ℕ → Type 0
  Inf c = c % top f ≡ ones f * hid f

  abbrev Fin : ℕ → Type 0
  Fin c = c % top f < ones f * hid f

  -- the word and what is raised
  abbrev Result : ℕ → ℕ → Type 0
  Result r raised = IsResult f (sum mode f) (sum_exceptions mode f) a b r raised

  -- by the values that the words stand for
  at : (v w : Float) → x ≡ v → y ≡ w → (sum mode f x y ≡ sum mode f v w) × (sum_exceptions mode f x y ≡ sum_exceptions mode f v w)
  at v w d e = (ap (λ (z : Float). sum mode f z y) d ∙ ap (sum mode f v) e, ap (λ (z : Float). sum_exceptions mode f z y) d ∙ ap (sum_exceptions mode f v) e)

  pub Nan-left : Nan a → Result (ones f * hid f + hid f / 2) 0
  unfolding sum sum_exceptions
  Nan-left h = let k = at nan y (nan_above f a h) refl in (nan_bits f (sum mode f x y) k.0, sym k.1)

  pub Nan-right : Nan b → Result (ones f * hid f + hid f / 2) 0
  Nan-right h = let k = at x nan refl (nan_above f b h) in (nan_bits f (sum mode f x y) (k.0 ∙ (sum-nan mode f x).0), sym (k.1 ∙ (sum-nan mode f x).1))

  -- an infinity's own word
  inf_word : (c : ℕ) → c < 2 * top f → Inf c → (sum mode f x y ≡ inf (leb (top f) c)) × (sum_exceptions mode f x y ≡ 0) → Result c 0
  inf_word c l h e =
      (sym (word_is f c (ones f * hid f) (sym h) l) ∙ inf_bits f (sum mode f x y) (leb (top f) c) (cond (leb (top f) c) (top f) 0) refl e.0, sym e.1)

  infs : (w : Bool) → beq s t ≡ w → Inf a → Inf b → (sum mode f x y ≡ cond w (inf s) nan) × (sum_exceptions mode f x y ≡ cond w 0 invalid)
  unfolding sum sum_exceptions
  infs w u h k =
      let e = at (inf s) (inf t) (inf_at f a h) (inf_at f b k) in
      (e.0 ∙ ap (λ (z : Bool). cond z (inf s) nan) u, e.1 ∙ ap (λ (z : Bool). cond z 0 invalid) u)

  pub infs_unlike : Inf a → Inf b → unlike s t ≡ true → Result (ones f * hid f + hid f / 2) invalid
  infs_unlike h k u = let e = infs false (beq_no s t u) h k in (nan_bits f (sum mode f x y) e.0, sym e.1)

  pub infs_like : a < 2 * top f → Inf a → Inf b → unlike s t ≡ false → Result a 0
  infs_like l h k u = inf_word a l h (infs true (beq_yes s t u) h k)

  pub Inf-left : a < 2 * top f → Inf a → Fin b → Result a 0
  Inf-left l h k =
      let p = sized f b k in
      let e = at (inf s) y (inf_at f a h) refl in
      let g = inf_plus mode f s t y p.size p.value in
      inf_word a l h (e.0 ∙ g.0, e.1 ∙ g.1)

  pub Inf-right : b < 2 * top f → Fin a → Inf b → Result b 0
  Inf-right l h k =
      let p = sized f a h in
      let e = at x (inf t) refl (inf_at f b k) in
      let g = plus_inf mode f s t x p.size p.value in
      inf_word b l k (e.0 ∙ g.0, e.1 ∙ g.1)

  zeros : (r : ℕ) (σ : Bool) → r ≡ cond σ (top f) 0 → IsSigned mode s 0 t 0 σ 0 → a % top f ≡ 0 → b % top f ≡ 0 → Result r 0
  zeros r σ d g h k =
      let w = sum_settles mode f x y s t 0 0 1 σ 0 (cond σ (top f) 0) true false false (lit< tt) (zero_size f a h) (zero_size f b k) g (zero_settles mode f σ 0 1 (lit< tt) refl) in
      (d ∙ w.0, w.1)

  pub zeros_unlike : (r : ℕ) → r ≡ cond (zero_sign mode) (top f) 0 → a % top f ≡ 0 → b % top f ≡ 0 → unlike s t ≡ true → Result r 0
  zeros_unlike r d h k u = zeros r (zero_sign mode) d (sum_none mode s 0 t 0 (beq_no s t u) refl) h k

  pub zeros_like : a < 2 * top f → a % top f ≡ 0 → b % top f ≡ 0 → unlike s t ≡ false → Result a 0
  zeros_like l h k u = zeros a s (sym (word_is f a 0 (sym h) l) ∙ add-zero (cond s (top f) 0)) (sum_like mode s 0 t 0 (beq_yes s t u)) h k

  zero_as : (c l : ℕ) → c % top f ≡ 0 → HasValue (of_bits f c) (leb (top f) c) 0 l
  zero_as c l z = subst (λ (v : Float). HasValue v (leb (top f) c) 0 l) (sym (reads_zero f c z)) (refl, zero-mul l ∙ sym (zero-mul 1))

  pub zero_left : b < 2 * top f → a % top f ≡ 0 → Fin b → (b % top f ≡ 0 → ⊥) → Result b 0
  zero_left l h k n =
      let p = sized f b k in
      sum_settles mode f x y s t 0 p.size (2 ^ low f) t p.size b true false (tiny f p.size (2 ^ low f)) (pow_pos (low f)) (zero_as a (2 ^ low f) h) p.value
      (zero_plus mode s t p.size (p.some (some_of (b % top f) n))) (p.settles l mode)

  pub zero_right : a < 2 * top f → Fin a → (a % top f ≡ 0 → ⊥) → Fin b → (IsNumber f a → IsNumber f b → ⊥) → Result a 0
  zero_right l h n k none =
      let p = sized f a h in
      let z : b % top f ≡ 0 = nothing (b % top f) (λ (g : 0 < b % top f). none (some_of (a % top f) n, h) (g, k)) in
      sum_settles mode f x y s t p.size 0 (2 ^ low f) s p.size a true false (tiny f p.size (2 ^ low f)) (pow_pos (low f)) p.value (zero_as b (2 ^ low f) z)
      (plus_zero mode s t p.size (p.some (some_of (a % top f) n))) (p.settles l mode)
    where
      nothing : (n : ℕ) → (0 < n → ⊥) → n ≡ 0
      nothing n h = omega arith
