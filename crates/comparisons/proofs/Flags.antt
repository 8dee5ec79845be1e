-- The flags of a comparison and what it raises, by the tests that the code makes on the floats x and y of the words a and b. Over the format. Assumes nothing.
use mathlib.Core.Path.{◌≡◌, refl, sym, ap, ◌∙◌}
use mathlib.Core.Bool.{Bool, true, false, cond, not, ◌&&◌, ◌||◌, and-false, or-true}
use Prim.Native.Nat.{ℕ, ◌<◌}
use lib.Dec.{lit<}
use lib.Ieee.{Float, Format, is_nan, ne, eq, lt, of_bits, nan_bits}
use lib.Ieee.Bits.{is_false, nan_bits_is}
use Rattle.exceptions.specs.Exceptions.{invalid, nan_exceptions}
use Rattle.exceptions.proofs.Laws.{nan_lt}
use Rattle.nans.specs.Nan.{quiet}
use Rattle.comparisons.specs.Compare.{flags_of, compare_flags, compare_exceptions}
use Rattle.floats.proofs.Patterns.{no_nan, is_nan_lem}

abbrev pick : Bool → Bool → Bool → Bool → ℕ
pick u v e l = cond (u || v) 3 (cond e 6 (cond l 8 2))

flags : (x y : Float) (u v e l : Bool) → is_nan x ≡ u → is_nan y ≡ v → eq x y ≡ e → lt x y ≡ l → flags_of x y ≡ pick u v e l
flags x y u v e l p q r s = rw (p, q, r, s)

-- by which operand is a NaN
raises : (f : Format) (any : Bool) (a b : ℕ) (u v : Bool) → nan_bits f a ≡ u → nan_bits f b ≡ v
    → compare_exceptions f any a b ≡ cond (any && (u || v)) invalid (cond (u && not (quiet f a) || v && not (quiet f b)) invalid 0)
unfolding compare_exceptions
raises f any a b u v p q = rw (p, q)

module _ (f : Format) (any : Bool) (a b : ℕ) (x y : Float) (flag raised : ℕ) (p : x ≡ of_bits f a) (q : y ≡ of_bits f b) where
  abbrev Compares : Type 0
  Compares = (flag ≡ compare_flags f a b) × (raised ≡ compare_exceptions f any a b)

  of_words : flags_of x y ≡ compare_flags f a b
  unfolding compare_flags
  of_words = ap (λ (v : Float). flags_of v y) p ∙ ap (flags_of (of_bits f a)) q

  word : (t : Bool) → is_nan x ≡ t → nan_bits f a ≡ t
  word t e = nan_bits_is f a ∙ ap is_nan (sym p) ∙ e

  word' : (t : Bool) → is_nan y ≡ t → nan_bits f b ≡ t
  word' t e = nan_bits_is f b ∙ ap is_nan (sym q) ∙ e

  -- a NaN on either side
  unordered : (nan_bits f a || nan_bits f b) ≡ true → raised ≡ cond any invalid (nan_exceptions f a b) → raised ≡ compare_exceptions f any a b
  unfolding compare_exceptions
  unordered h e = e ∙ by any ∙ sym (ap (λ (t : Bool). cond (any && t) invalid (nan_exceptions f a b)) h)
    where
      by : (any : Bool) → cond any invalid (nan_exceptions f a b) ≡ cond (any && true) invalid (nan_exceptions f a b)
      by true = refl
      by false = refl

  pub nan_l : ne x x ≡ true → flag ≡ 3 → raised ≡ cond any invalid (nan_exceptions f a b) → Compares
  nan_l h d e = (
    d ∙ sym (flags x y true (is_nan y) (eq x y) (lt x y) (is_nan_lem x h) refl refl refl) ∙ of_words,
    unordered (ap (λ (t : Bool). t || nan_bits f b) (word true (is_nan_lem x h))) e,
  )

  pub nan_r : ne x x ≡ false → ne y y ≡ true → flag ≡ 3 → raised ≡ cond any invalid (nan_exceptions f a b) → Compares
  nan_r g h d e = (
    d ∙ sym (flags x y false true (eq x y) (lt x y) (is_false (is_nan x) (no_nan x g)) (is_nan_lem y h) refl refl) ∙ of_words,
    unordered (ap (λ (t : Bool). nan_bits f a || t) (word' true (is_nan_lem y h)) ∙ or-true (nan_bits f a)) e,
  )

  numbers : ne x x ≡ false → ne y y ≡ false → raised ≡ 0 → raised ≡ compare_exceptions f any a b
  numbers g h e =
      e
      ∙ sym (ap (λ (t : Bool). cond t invalid 0) (and-false any))
      ∙ sym (raises f any a b false false (word false (is_false (is_nan x) (no_nan x g))) (word' false (is_false (is_nan y) (no_nan y h))))

  pub equal : ne x x ≡ false → ne y y ≡ false → eq x y ≡ true → (flag ≡ 6) × (raised ≡ 0) → Compares
  equal g h e d = (
    d.0 ∙ sym (flags x y false false true (lt x y) (is_false (is_nan x) (no_nan x g)) (is_false (is_nan y) (no_nan y h)) e refl) ∙ of_words,
    numbers g h d.1,
  )

  pub ordered : (l : Bool) → ne x x ≡ false → ne y y ≡ false → eq x y ≡ false → lt x y ≡ l → (flag ≡ cond l 8 2) × (raised ≡ 0) → Compares
  ordered l g h e k d = (
    d.0 ∙ sym (flags x y false false false l (is_false (is_nan x) (no_nan x g)) (is_false (is_nan y) (no_nan y h)) e k) ∙ of_words,
    numbers g h d.1,
  )

pub flags_lt : (f : Format) (a b : ℕ) → compare_flags f a b < 16
unfolding compare_flags
flags_lt f a b = go (is_nan (of_bits f a) || is_nan (of_bits f b)) (eq (of_bits f a) (of_bits f b)) (lt (of_bits f a) (of_bits f b))
  where
    go : (u e l : Bool) → cond u 3 (cond e 6 (cond l 8 2)) < 16
    go true e l = lit< tt
    go false true l = lit< tt
    go false false true = lit< tt
    go false false false = lit< tt

pub compare_raises : (f : Format) (any : Bool) (a b : ℕ) → compare_exceptions f any a b < 32
unfolding compare_exceptions
compare_raises f any a b = go (any && (nan_bits f a || nan_bits f b))
  where
    go : (t : Bool) → cond t invalid (nan_exceptions f a b) < 32
    go true = lit< tt
    go false = nan_lt f a b
