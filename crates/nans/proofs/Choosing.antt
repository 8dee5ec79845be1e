-- Which NaN comes out: by the tests that the code makes, and what holds of it. Over the format. Assumes nothing.
use Rattle.std.proofs.Common.{◌≡◌, ℕ, ◌+◌, ◌*◌, ◌/◌, ◌%◌, ◌^◌, ◌<◌, ◌≤◌, Bool, true, false, cond, not, ◌&&◌, ◌||◌, sym, refl, ap, ◌∙◌, subst, true≢false, arith, ltb-true, le-ltb, lt-ltb, eq-eqb, ne_eqb, eqb-true}
use borrow.Author.Tests.{eqb-false}
use lib.Ieee.{Float, Format, binary32, binary64, of_bits, to_bits, nan_bits, hid, ones, top}
use lib.Ieee.Bits.{nan_bits_above}
use lib.Ieee.Exact.{HasValue}
use Rattle.floats.proofs.Patterns.{reads_nan}
use Rattle.nans.specs.Nan.{defaults, default_nan, quiet, signalling, quieted, chosen, nan_of, operated, negation, resized}

pub quiet_kept : (f : Format) (w : ℕ) → w / (hid f / 2) % 2 ≡ 1 → w ≡ quieted f w
unfolding quieted
quiet_kept f w h = sym (ap (λ (b : Bool). cond b w (w + hid f / 2)) (eq-eqb (w / (hid f / 2) % 2) 1 h))

pub quiet_set : (f : Format) (w : ℕ) → (w / (hid f / 2) % 2 ≡ 1 → ⊥) → w + hid f / 2 ≡ quieted f w
unfolding quieted
quiet_set f w h = sym (ap (λ (b : Bool). cond b w (w + hid f / 2)) (ne_eqb (w / (hid f / 2) % 2) 1 h))

pub signalling_first : (f : Format) (a b : ℕ) → signalling f a ≡ true → a ≡ chosen f a b
signalling_first f a b h = sym (ap (λ (t : Bool). cond t a (cond (signalling f b) b (cond (nan_bits f a) a b))) h)

pub signalling_second : (f : Format) (a b : ℕ) → signalling f a ≡ false → signalling f b ≡ true → b ≡ chosen f a b
signalling_second f a b h k = rw (h, k) refl

pub nan_else : (f : Format) (a b : ℕ) (t : Bool) → signalling f a ≡ false → signalling f b ≡ false → nan_bits f a ≡ t → cond t a b ≡ chosen f a b
nan_else f a b t h k e = rw (h, k, e) refl

-- with bit 25 set and clear
pub nan_default : (f : Format) (control a b : ℕ) → defaults control ≡ true → default_nan f ≡ nan_of f control a b
unfolding nan_of
nan_default f control a b h = sym (ap (λ (t : Bool). cond t (default_nan f) (quieted f (chosen f a b))) h)

pub nan_chosen : (f : Format) (control a b x : ℕ) → defaults control ≡ false → x ≡ chosen f a b → quieted f x ≡ nan_of f control a b
unfolding nan_of
nan_chosen f control a b x h e = ap (quieted f) e ∙ sym (ap (λ (t : Bool). cond t (default_nan f) (quieted f (chosen f a b))) h)

pub negation_is : (f : Format) (control w : ℕ) (p q t : Bool) → p ≡ defaults control → q ≡ nan_bits f w → (p && q) ≡ t
    → cond t w ((w + top f) % (top f * 2)) ≡ negation f control w
unfolding negation
negation_is f control w p q t d n h = rw (sym d, sym n, h) refl

pub resized_default : (f g : Format) (control w : ℕ) → defaults control ≡ true → default_nan g ≡ resized f g control w
unfolding resized
resized_default f g control w h = sym (ap (λ (t : Bool). cond t (default_nan g) (quieted g (w / top f * top g + (ones g * hid g + w % hid f * hid g / hid f)))) h)

pub resized_by : (f g : Format) (control w x : ℕ) → defaults control ≡ false → x ≡ w / top f * top g + (ones g * hid g + w % hid f * hid g / hid f) → quieted g x ≡ resized f g control w
unfolding resized
resized_by f g control w x h e = ap (quieted g) e ∙ sym (ap (λ (t : Bool). cond t (default_nan g) (quieted g (w / top f * top g + (ones g * hid g + w % hid f * hid g / hid f)))) h)

-- ---- what comes out is a NaN, and a word of the format

abbrev IsNan : Format → ℕ → Type 0
IsNan f w = (ones f * hid f < w % top f) × (w < 2 * top f)

-- by the pattern without the sign
pub a_nan : (f : Format) (w : ℕ) → ones f * hid f < w % top f → nan_bits f w ≡ true
a_nan f w h = nan_bits_above f w ∙ lt-ltb (ones f * hid f) (w % top f) h

pub no_nan : (f : Format) (w : ℕ) → w % top f ≤ ones f * hid f → nan_bits f w ≡ false
no_nan f w h = nan_bits_above f w ∙ le-ltb (ones f * hid f) (w % top f) h

pub nan_pattern : (f : Format) (w : ℕ) → w < 2 * top f → nan_bits f w ≡ true → IsNan f w
nan_pattern f w l h = (ltb-true (ones f * hid f) (w % top f) (sym (nan_bits_above f w) ∙ h), l)

pub nan_word : (f : Format) (w : ℕ) → IsNan f w → nan_bits f w ≡ true
nan_word f w h = a_nan f w h.0

set : (f : Format) (w : ℕ) → (w / (hid f / 2) % 2 ≡ 1 → ⊥) → IsNan f w → IsNan f (w + hid f / 2)
set binary32 w n h = (omega (arith, h.0, h.1), omega (arith, h.0, h.1))
set binary64 w n h = (omega (arith, h.0, h.1), omega (arith, h.0, h.1))

pub quieted_nan : (f : Format) (w : ℕ) → IsNan f w → IsNan f (quieted f w)
quieted_nan f w h = by (quiet f w) refl
  where
    by : (t : Bool) → quiet f w ≡ t → IsNan f (quieted f w)
    by true e = subst (IsNan f) (quiet_kept f w (eqb-true (w / (hid f / 2) % 2) 1 e)) h
    by false e = subst (IsNan f) (quiet_set f w (eqb-false (w / (hid f / 2) % 2) 1 e)) (set f w (eqb-false (w / (hid f / 2) % 2) 1 e) h)

pub default_nan_lem : (f : Format) → IsNan f (default_nan f)
default_nan_lem binary32 = (omega arith, omega arith)
default_nan_lem binary64 = (omega arith, omega arith)

chosen_nan : (f : Format) (a b : ℕ) → (nan_bits f a || nan_bits f b) ≡ true → nan_bits f (chosen f a b) ≡ true
chosen_nan f a b h = by (nan_bits f a) (nan_bits f b) (quiet f a) (quiet f b) refl refl h
  where
    by : (x y p q : Bool) → nan_bits f a ≡ x → nan_bits f b ≡ y → (x || y) ≡ true → nan_bits f (cond (x && not p) a (cond (y && not q) b (cond x a b))) ≡ true
    by true y false q d e k = d
    by true true true false d e k = e
    by true true true true d e k = d
    by true false true q d e k = d
    by false true p false d e k = e
    by false true p true d e k = e
    by false false p q d e k = absurd (true≢false (sym k))

chosen_word : (f : Format) (a b : ℕ) → a < 2 * top f → b < 2 * top f → chosen f a b < 2 * top f
chosen_word f a b l m = either (signalling f a) l (either (signalling f b) m (either (nan_bits f a) l m))
  where
    either : {x y : ℕ} (t : Bool) → x < 2 * top f → y < 2 * top f → cond t x y < 2 * top f
    either true h k = h
    either false h k = k

pub nan_of_nan : (f : Format) (control a b : ℕ) → a < 2 * top f → b < 2 * top f → (nan_bits f a || nan_bits f b) ≡ true → IsNan f (nan_of f control a b)
nan_of_nan f control a b l m h = by (defaults control) refl
  where
    by : (t : Bool) → defaults control ≡ t → IsNan f (nan_of f control a b)
    by true e = subst (IsNan f) (nan_default f control a b e) (default_nan_lem f)
    by false e =
        subst (IsNan f) (nan_chosen f control a b (chosen f a b) e refl)
        (quieted_nan f (chosen f a b) (nan_pattern f (chosen f a b) (chosen_word f a b l m) (chosen_nan f a b h)))

flipped : (f : Format) (w : ℕ) → IsNan f w → IsNan f ((w + top f) % (top f * 2))
flipped binary32 w h = (omega (arith, h.0, h.1), omega (arith, h.0, h.1))
flipped binary64 w h = (omega (arith, h.0, h.1), omega (arith, h.0, h.1))

pub negation_nan : (f : Format) (control w : ℕ) → IsNan f w → IsNan f (negation f control w)
negation_nan f control w h = by (defaults control && nan_bits f w) refl
  where
    by : (t : Bool) → (defaults control && nan_bits f w) ≡ t → IsNan f (negation f control w)
    by true e = subst (IsNan f) (negation_is f control w (defaults control) (nan_bits f w) true refl refl e) h
    by false e = subst (IsNan f) (negation_is f control w (defaults control) (nan_bits f w) false refl refl e) (flipped f w h)

-- of the sign s and the fraction y
abbrev pattern : Format → ℕ → ℕ → ℕ
pattern g s y = s * top g + (ones g * hid g + y)

pattern-quieted : (g : Format) (s y : ℕ) → s < 2 → y < hid g → IsNan g (quieted g (pattern g s y))
pattern-quieted g s y m l = by (quiet g (pattern g s y)) refl
  where
    kept_nan : (g : Format) (s y : ℕ) → s < 2 → y < hid g → pattern g s y / (hid g / 2) % 2 ≡ 1 → IsNan g (pattern g s y)
    kept_nan binary32 s y m l q = (omega arith, omega arith)
    kept_nan binary64 s y m l q = (omega arith, omega arith)

    set_nan : (g : Format) (s y : ℕ) → s < 2 → y < hid g → (pattern g s y / (hid g / 2) % 2 ≡ 1 → ⊥) → IsNan g (pattern g s y + hid g / 2)
    set_nan binary32 s y m l q = (omega arith, omega arith)
    set_nan binary64 s y m l q = (omega arith, omega arith)

    by : (t : Bool) → quiet g (pattern g s y) ≡ t → IsNan g (quieted g (pattern g s y))
    by true e = let q = eqb-true (pattern g s y / (hid g / 2) % 2) 1 e in subst (IsNan g) (quiet_kept g (pattern g s y) q) (kept_nan g s y m l q)
    by false e = let q = eqb-false (pattern g s y / (hid g / 2) % 2) 1 e in subst (IsNan g) (quiet_set g (pattern g s y) q) (set_nan g s y m l q)

moved : (f g : Format) (w : ℕ) → w < 2 * top f → (w / top f < 2) × (w % hid f * hid g / hid f < hid g)
moved binary32 binary32 w h = (omega arith, omega arith)
moved binary32 binary64 w h = (omega arith, omega arith)
moved binary64 binary32 w h = (omega arith, omega arith)
moved binary64 binary64 w h = (omega arith, omega arith)

pub resized_nan : (f g : Format) (control w : ℕ) → w < 2 * top f → IsNan g (resized f g control w)
resized_nan f g control w h = by (defaults control) refl
  where
    by : (t : Bool) → defaults control ≡ t → IsNan g (resized f g control w)
    by true e = subst (IsNan g) (resized_default f g control w e) (default_nan_lem g)
    by false e =
        let m = moved f g w h in
        subst (IsNan g) (resized_by f g control w _ e refl) (pattern-quieted g (w / top f) (w % hid f * hid g / hid f) m.0 m.1)

-- ---- numbers are left alone

pub numbers_operated : (f : Format) (control : ℕ) (op : Float → Float → Float) (a b : ℕ) (p q : Bool) → p ≡ nan_bits f a → q ≡ nan_bits f b → (p || q) ≡ false
    → to_bits f (op (of_bits f a) (of_bits f b)) ≡ operated f control op a b
unfolding operated
numbers_operated f control op a b p q d e h = rw (sym d, sym e, h) refl

pub nans_operated : (f : Format) (control : ℕ) (op : Float → Float → Float) (a b : ℕ) (p q : Bool) → p ≡ nan_bits f a → q ≡ nan_bits f b → (p || q) ≡ true
    → nan_of f control a b ≡ operated f control op a b
unfolding operated
nans_operated f control op a b p q d e h = rw (sym d, sym e, h) refl

and-false : (p : Bool) → (p && false) ≡ false
and-false true = refl
and-false false = refl

pub number_negated : (f : Format) (control w : ℕ) → nan_bits f w ≡ false → (w + top f) % (top f * 2) ≡ negation f control w
number_negated f control w h = negation_is f control w (defaults control) false false refl (sym h) (and-false (defaults control))

-- what has a value is a number
pub valued_number : (f : Format) (b : ℕ) (s : Bool) (a c : ℕ) → HasValue (of_bits f b) s a c → nan_bits f b ≡ false
valued_number f b s a c h = by (nan_bits f b) refl
  where
    by : (t : Bool) → nan_bits f b ≡ t → nan_bits f b ≡ false
    by true e = absurd (subst (λ (v : Float). HasValue v s a c) (reads_nan f b e) h)
    by false e = e
