-- Quotients at NaNs, infinities and zeros, by the words. Over the mode and the format. Assumes nothing.
use mathlib.Core.Path.{◌≡◌, refl, sym, ap, ◌∙◌}
use mathlib.Core.Bool.{Bool, true, false, cond}
use Prim.Native.Nat.{ℕ, ◌+◌, ◌*◌, ◌/◌, ◌%◌, ◌^◌, ◌<◌}
use native.Mathlib.Nat.{mul-pos, zero-mul, add-zero}
use native.Mathlib.Omega.{arith}
use borrow.Author.Tests.{ne_eqb}
use lib.Dec.{leb, lit<}
use lib.IntN.{pos}
use lib.Pow.{pow_pos}
use lib.Ieee.{Float, nan, inf, fin, Format, low, hid, ones, top, up, down, unlike, of_bits, to_bits}
use lib.Ieee.Fits.{down_pos}
use lib.Ieee.Exact.{HasValue}
use Rattle.rounding.specs.declared.rounding.Rounding.{Rounding}
use Rattle.operators.specs.Operators.{quotient}
use Rattle.exceptions.specs.Exceptions.{invalid, division_by_zero}
use Rattle.exceptions.specs.Operators.{quotient_exceptions, IsResult}
use Rattle.digits.specs.Digits.{IsNumber}
use Rattle.floats.proofs.Units.{reads_zero}
use Rattle.operators.proofs.Values.{digits_pos}
use Rattle.operators.proofs.Words.{nan_above, inf_at, sized, nan_bits, inf_bits, zero_settles, zero_size, signed_zero}
use Rattle.exceptions.proofs.Values.{quotient_settles}

-- a quotient with a NaN, and those of a size with an infinity or a zero: the value, and what is raised
quotient-nan : (mode : Rounding) (f : Format) (v : Float) → (quotient mode f v nan ≡ nan) × (quotient_exceptions mode f v nan ≡ 0)
unfolding quotient quotient_exceptions
quotient-nan mode f nan = (refl, refl)
quotient-nan mode f (inf u) = (refl, refl)
quotient-nan mode f (fin u m e) = (refl, refl)

inf_over : (mode : Rounding) (f : Format) (s t : Bool) (v : Float) (c : ℕ) → HasValue v t c (2 ^ low f)
    → (quotient mode f (inf s) v ≡ inf (unlike s t)) × (quotient_exceptions mode f (inf s) v ≡ 0)
unfolding quotient quotient_exceptions
inf_over mode f s t nan c h = absurd h
inf_over mode f s t (inf u) c h = absurd h
inf_over mode f s t (fin u m e) c h = (ap (λ (w : Bool). inf (unlike s w)) h.0, refl)

over_inf : (mode : Rounding) (f : Format) (s t : Bool) (v : Float) (c : ℕ) → HasValue v s c (2 ^ low f)
    → (quotient mode f v (inf t) ≡ fin (unlike s t) 0 (pos 0)) × (quotient_exceptions mode f v (inf t) ≡ 0)
unfolding quotient quotient_exceptions
over_inf mode f s t nan c h = absurd h
over_inf mode f s t (inf u) c h = absurd h
over_inf mode f s t (fin u m e) c h = (ap (λ (w : Bool). fin (unlike w t) 0 (pos 0)) h.0, refl)

over_zero : (mode : Rounding) (f : Format) (s t : Bool) (v : Float) (c : ℕ) → HasValue v s c (2 ^ low f) → 0 < c
    → (quotient mode f v (fin t 0 (pos 0)) ≡ inf (unlike s t)) × (quotient_exceptions mode f v (fin t 0 (pos 0)) ≡ division_by_zero)
unfolding quotient quotient_exceptions
over_zero mode f s t nan c h p = absurd h
over_zero mode f s t (inf u) c h p = absurd h
over_zero mode f s t (fin u m e) c h p =
    let z = ne_eqb m 0 (not_none m (digits_pos m (up e) (2 ^ low f) c (down e) p (down_pos e) h.1)) in
    (ap (λ (w : Bool). cond w nan (inf (unlike u t))) z ∙ ap (λ (w : Bool). inf (unlike w t)) h.0, ap (λ (w : Bool). cond w invalid division_by_zero) z)
  where
    not_none : (n : ℕ) → 0 < n → n ≡ 0 → ⊥
    not_none n h e = omega arith

some_of : (n : ℕ) → (n ≡ 0 → ⊥) → 0 < n
some_of n h = omega arith

module _ (mode : Rounding) (f : Format) (a b : ℕ) where
  abbrev x : Float
  x = of_bits f a

  abbrev y : Float
  y = of_bits f b

  abbrev s : Bool
  s = leb (top f) a

  abbrev t : Bool
  t = leb (top f) b

  abbrev Nan : ℕ → Type 0
  Nan c = ones f * hid f < c % top f

  abbrev Inf : ℕ → Type 0
  Inf c = c % top f ≡ ones f * hid f

  abbrev Fin : ℕ → Type 0
  Fin c = c % top f < ones f * hid f

  -- the word and what is raised
  abbrev Result : ℕ → ℕ → Type 0
  Result r raised = IsResult f (quotient mode f) (quotient_exceptions mode f) a b r raised

  -- by the values that the words stand for
  at : (v w : Float) → x ≡ v → y ≡ w → (quotient mode f x y ≡ quotient mode f v w) × (quotient_exceptions mode f x y ≡ quotient_exceptions mode f v w)
  at v w d e = (ap (λ (z : Float). quotient mode f z y) d ∙ ap (quotient mode f v) e, ap (λ (z : Float). quotient_exceptions mode f z y) d ∙ ap (quotient_exceptions mode f v) e)

  no_number : (raised : ℕ) → (quotient mode f x y ≡ nan) × (quotient_exceptions mode f x y ≡ raised) → Result (ones f * hid f + hid f / 2) raised
  no_number raised e = (nan_bits f (quotient mode f x y) e.0, sym e.1)

  pub Nan-left : Nan a → Result (ones f * hid f + hid f / 2) 0
  unfolding quotient quotient_exceptions
  Nan-left h = no_number 0 (at nan y (nan_above f a h) refl)

  pub Nan-right : Nan b → Result (ones f * hid f + hid f / 2) 0
  Nan-right h = let k = at x nan refl (nan_above f b h) in no_number 0 (k.0 ∙ (quotient-nan mode f x).0, k.1 ∙ (quotient-nan mode f x).1)

  pub Inf-Inf : Inf a → Inf b → Result (ones f * hid f + hid f / 2) invalid
  unfolding quotient quotient_exceptions
  Inf-Inf h k = no_number invalid (at (inf s) (inf t) (inf_at f a h) (inf_at f b k))

  pub zero-zero : a % top f ≡ 0 → b % top f ≡ 0 → Result (ones f * hid f + hid f / 2) invalid
  unfolding quotient quotient_exceptions
  zero-zero h k = no_number invalid (at (fin s 0 (pos 0)) (fin t 0 (pos 0)) (reads_zero f a h) (reads_zero f b k))

  infinite : (r : ℕ) (n : Bool) (raised : ℕ) → r ≡ cond n (top f) 0 + ones f * hid f → n ≡ unlike s t → (quotient mode f x y ≡ inf (unlike s t)) × (quotient_exceptions mode f x y ≡ raised)
      → Result r raised
  infinite r n raised d e h = (d ∙ inf_bits f (quotient mode f x y) n (cond n (top f) 0) refl (h.0 ∙ ap inf (sym e)), sym h.1)

  pub Inf-left : (r : ℕ) (n : Bool) → r ≡ cond n (top f) 0 + ones f * hid f → n ≡ unlike s t → Inf a → Fin b → Result r 0
  Inf-left r n d e h k =
      let p = sized f b k in
      let g = at (inf s) y (inf_at f a h) refl in
      let i = inf_over mode f s t y p.size p.value in
      infinite r n 0 d e (g.0 ∙ i.0, g.1 ∙ i.1)

  pub by_zero : (r : ℕ) (n : Bool) → r ≡ cond n (top f) 0 + ones f * hid f → n ≡ unlike s t → Fin a → (a % top f ≡ 0 → ⊥) → b % top f ≡ 0 → Result r division_by_zero
  by_zero r n d e h z k =
      let p = sized f a h in
      let g = at x (fin t 0 (pos 0)) refl (reads_zero f b k) in
      let i = over_zero mode f s t x p.size p.value (p.some (some_of (a % top f) z)) in
      infinite r n division_by_zero d e (g.0 ∙ i.0, g.1 ∙ i.1)

  pub by_Inf : (r : ℕ) (n : Bool) → r ≡ cond n (top f) 0 + 0 → n ≡ unlike s t → Fin a → Inf b → Result r 0
  by_Inf r n d e h k =
      let p = sized f a h in
      let g = at x (inf t) refl (inf_at f b k) in
      let i = over_inf mode f s t x p.size p.value in
      (d ∙ add-zero (cond n (top f) 0) ∙ sym (ap (to_bits f) (g.0 ∙ i.0 ∙ ap (λ (u : Bool). fin u 0 (pos 0)) (sym e)) ∙ signed_zero f n), sym (g.1 ∙ i.1))

  pub of_zero : (r : ℕ) (n : Bool) → r ≡ cond n (top f) 0 + 0 → n ≡ unlike s t → Fin a → Fin b → (b % top f ≡ 0 → ⊥) → (IsNumber f a → IsNumber f b → ⊥) → Result r 0
  of_zero r n d e h k z none =
      let p = sized f b k in
      let B : 0 < p.size = p.some (some_of (b % top f) z) in
      let w : a % top f ≡ 0 = nothing (a % top f) (λ (g : 0 < a % top f). none (g, h) (some_of (b % top f) z, k)) in
      let g = quotient_settles mode f x y s t 0 1 p.size (2 ^ low f) (cond (unlike s t) (top f) 0) true false false (lit< tt) (pow_pos (low f)) B (zero_size f a w) p.value
      (zero_settles mode f (unlike s t) (0 * 2 ^ low f) (p.size * 1) (mul-pos B (lit< tt)) (zero-mul (2 ^ low f))) in
      (d ∙ add-zero (cond n (top f) 0) ∙ ap (λ (u : Bool). cond u (top f) 0) e ∙ g.0, g.1)
    where
      nothing : (n : ℕ) → (0 < n → ⊥) → n ≡ 0
      nothing n h = omega arith
