-- Products at NaNs, infinities and zeros, by the words. Over the mode and the format. Assumes nothing.
use mathlib.Core.Path.{◌≡◌, refl, sym, ap, ◌∙◌}
use mathlib.Core.Bool.{Bool, true, false, cond}
use Prim.Native.Nat.{ℕ, ◌+◌, ◌*◌, ◌/◌, ◌%◌, ◌^◌, ◌≤◌, ◌<◌}
use native.Mathlib.Nat.{mul-pos, mul_comm, zero-mul, add-zero}
use native.Mathlib.Omega.{arith}
use native.Mathlib.Decide.{dec_lt}
use borrow.Author.Tests.{ne_eqb}
use lib.Dec.{leb, lit<}
use lib.IntN.{pos}
use lib.Pow.{pow_pos}
use lib.Ieee.{Float, nan, inf, fin, Format, low, hid, ones, top, up, down, unlike, of_bits}
use lib.Ieee.Fits.{down_pos}
use lib.Ieee.Exact.{HasValue}
use Rattle.rounding.specs.declared.rounding.Rounding.{Rounding}
use Rattle.operators.specs.Operators.{product}
use Rattle.exceptions.specs.Exceptions.{invalid}
use Rattle.exceptions.specs.Operators.{product_exceptions, IsResult}
use Rattle.digits.specs.Digits.{IsNumber}
use Rattle.floats.proofs.Units.{reads_zero}
use Rattle.operators.proofs.Values.{digits_pos}
use Rattle.operators.proofs.Words.{nan_above, inf_at, Sized, sized, nan_bits, inf_bits, zero_settles, zero_size}
use Rattle.exceptions.proofs.Values.{product_settles}

-- a product with a NaN, and one with an infinity by a size that is not 0: the value, and that nothing is raised
product-nan : (mode : Rounding) (f : Format) (v : Float) → (product mode f v nan ≡ nan) × (product_exceptions mode f v nan ≡ 0)
unfolding product product_exceptions
product-nan mode f nan = (refl, refl)
product-nan mode f (inf u) = (refl, refl)
product-nan mode f (fin u m e) = (refl, refl)

not_none : (n : ℕ) → 0 < n → n ≡ 0 → ⊥
not_none n h e = omega arith

some_of : (n : ℕ) → (n ≡ 0 → ⊥) → 0 < n
some_of n h = omega arith

inf_times : (mode : Rounding) (f : Format) (s t : Bool) (v : Float) (c : ℕ) → HasValue v t c (2 ^ low f) → 0 < c
    → (product mode f (inf s) v ≡ inf (unlike s t)) × (product_exceptions mode f (inf s) v ≡ 0)
unfolding product product_exceptions
inf_times mode f s t nan c h p = absurd h
inf_times mode f s t (inf u) c h p = absurd h
inf_times mode f s t (fin u m e) c h p =
    let z = ne_eqb m 0 (not_none m (digits_pos m (up e) (2 ^ low f) c (down e) p (down_pos e) h.1)) in
    (ap (λ (w : Bool). cond w nan (inf (unlike s u))) z ∙ ap (λ (w : Bool). inf (unlike s w)) h.0, ap (λ (w : Bool). cond w invalid 0) z)

times_inf : (mode : Rounding) (f : Format) (s t : Bool) (v : Float) (c : ℕ) → HasValue v s c (2 ^ low f) → 0 < c
    → (product mode f v (inf t) ≡ inf (unlike s t)) × (product_exceptions mode f v (inf t) ≡ 0)
unfolding product product_exceptions
times_inf mode f s t nan c h p = absurd h
times_inf mode f s t (inf u) c h p = absurd h
times_inf mode f s t (fin u m e) c h p =
    let z = ne_eqb m 0 (not_none m (digits_pos m (up e) (2 ^ low f) c (down e) p (down_pos e) h.1)) in
    (ap (λ (w : Bool). cond w nan (inf (unlike u t))) z ∙ ap (λ (w : Bool). inf (unlike w t)) h.0, ap (λ (w : Bool). cond w invalid 0) z)

module _ (mode : Rounding) (f : Format) (a b : ℕ) where
  abbrev x : Float
  x = of_bits f a

  abbrev y : Float
  y = of_bits f b

  abbrev s : Bool
  s = leb (top f) a

  abbrev t : Bool
  t = leb (top f) b

  abbrev Nan : ℕ → Type 0
  Nan c = ones f * hid f < c % top f

  abbrev Inf : ℕ → Type 0
  Inf c = c % top f ≡ ones f * hid f

  abbrev Fin : ℕ → Type 0
  Fin c = c % top f < ones f * hid f

  -- the word and what is raised
  abbrev Result : ℕ → ℕ → Type 0
  Result r raised = IsResult f (product mode f) (product_exceptions mode f) a b r raised

  -- by the values that the words stand for
  at : (v w : Float) → x ≡ v → y ≡ w → (product mode f x y ≡ product mode f v w) × (product_exceptions mode f x y ≡ product_exceptions mode f v w)
  at v w d e = (ap (λ (z : Float). product mode f z y) d ∙ ap (product mode f v) e, ap (λ (z : Float). product_exceptions mode f z y) d ∙ ap (product_exceptions mode f v) e)

  no_number : (raised : ℕ) → (product mode f x y ≡ nan) × (product_exceptions mode f x y ≡ raised) → Result (ones f * hid f + hid f / 2) raised
  no_number raised e = (nan_bits f (product mode f x y) e.0, sym e.1)

  pub Nan-left : Nan a → Result (ones f * hid f + hid f / 2) 0
  unfolding product product_exceptions
  Nan-left h = no_number 0 (at nan y (nan_above f a h) refl)

  pub Nan-right : Nan b → Result (ones f * hid f + hid f / 2) 0
  Nan-right h = let k = at x nan refl (nan_above f b h) in no_number 0 (k.0 ∙ (product-nan mode f x).0, k.1 ∙ (product-nan mode f x).1)

  pub Inf-zero : Inf a → b % top f ≡ 0 → Result (ones f * hid f + hid f / 2) invalid
  unfolding product product_exceptions
  Inf-zero h k = no_number invalid (at (inf s) (fin t 0 (pos 0)) (inf_at f a h) (reads_zero f b k))

  pub zero-Inf : a % top f ≡ 0 → Inf b → Result (ones f * hid f + hid f / 2) invalid
  unfolding product product_exceptions
  zero-Inf h k = no_number invalid (at (fin s 0 (pos 0)) (inf t) (reads_zero f a h) (inf_at f b k))

  infinite : (r : ℕ) (n : Bool) → r ≡ cond n (top f) 0 + ones f * hid f → n ≡ unlike s t → (product mode f x y ≡ inf (unlike s t)) × (product_exceptions mode f x y ≡ 0) → Result r 0
  infinite r n d e h = (d ∙ inf_bits f (product mode f x y) n (cond n (top f) 0) refl (h.0 ∙ ap inf (sym e)), sym h.1)

  pub Inf-left : (r : ℕ) (n : Bool) → r ≡ cond n (top f) 0 + ones f * hid f → n ≡ unlike s t → Inf a → b % top f ≤ ones f * hid f → (b % top f ≡ 0 → ⊥) → Result r 0
  unfolding product product_exceptions
  Inf-left r n d e h k z = infinite r n d e (go (dec_lt (b % top f) (ones f * hid f)))
    where
      last : (p q : ℕ) → p ≤ q → (p < q → ⊥) → p ≡ q
      last p q l m = omega arith

      go : Dec (b % top f < ones f * hid f) → (product mode f x y ≡ inf (unlike s t)) × (product_exceptions mode f x y ≡ 0)
      go (yes l) =
          let p = sized f b l in
          let g = at (inf s) y (inf_at f a h) refl in
          let i = inf_times mode f s t y p.size p.value (p.some (some_of (b % top f) z)) in
          (g.0 ∙ i.0, g.1 ∙ i.1)
      go (no m) = at (inf s) (inf t) (inf_at f a h) (inf_at f b (last (b % top f) (ones f * hid f) k m))

  pub Inf-right : (r : ℕ) (n : Bool) → r ≡ cond n (top f) 0 + ones f * hid f → n ≡ unlike s t → Fin a → (a % top f ≡ 0 → ⊥) → Inf b → Result r 0
  Inf-right r n d e h z k =
      let p = sized f a h in
      let g = at x (inf t) refl (inf_at f b k) in
      let i = times_inf mode f s t x p.size p.value (p.some (some_of (a % top f) z)) in
      infinite r n d e (g.0 ∙ i.0, g.1 ∙ i.1)

  zero : (r : ℕ) (n : Bool) (c l d m : ℕ) → r ≡ cond n (top f) 0 + 0 → n ≡ unlike s t → 0 < l → 0 < m → HasValue x s c l → HasValue y t d m → c * d ≡ 0 → Result r 0
  zero r n c l d m g e L M v w z =
      let k = product_settles mode f x y s t c l d m (cond (unlike s t) (top f) 0) true false false L M v w (zero_settles mode f (unlike s t) (c * d) (l * m) (mul-pos L M) z) in
      (g ∙ add-zero (cond n (top f) 0) ∙ ap (λ (u : Bool). cond u (top f) 0) e ∙ k.0, k.1)

  pub zeros : (r : ℕ) (n : Bool) → r ≡ cond n (top f) 0 + 0 → n ≡ unlike s t → Fin a → Fin b → (IsNumber f a → IsNumber f b → ⊥) → Result r 0
  zeros r n d e h k none = go (dec_lt 0 (a % top f)) (dec_lt 0 (b % top f))
    where
      p : Sized f a
      p = sized f a h

      q : Sized f b
      q = sized f b k

      nothing : (n : ℕ) → (0 < n → ⊥) → n ≡ 0
      nothing n h = omega arith

      go : Dec (0 < a % top f) → Dec (0 < b % top f) → Result r 0
      go (yes i) (yes j) = absurd (none (i, h) (j, k))
      go (no i) j = zero r n 0 1 q.size (2 ^ low f) d e (lit< tt) (pow_pos (low f)) (zero_size f a (nothing (a % top f) i)) q.value (zero-mul q.size)
      go (yes i) (no j) = zero r n p.size (2 ^ low f) 0 1 d e (pow_pos (low f)) (lit< tt) p.value (zero_size f b (nothing (b % top f) j)) (mul_comm p.size 0 ∙ zero-mul p.size)
