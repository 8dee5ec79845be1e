-- Words as the values that they stand for, and what is written. Over the mode and the format. Assumes nothing.
use mathlib.Core.Path.{◌≡◌, refl, sym, ap, ◌∙◌, subst}
use mathlib.Core.Logic.{inl, inr}
use mathlib.Core.Bool.{Bool, true, false, ◌&&◌, cond}
use Prim.Native.Nat.{ℕ, ◌+◌, ◌-◌, ◌*◌, ◌/◌, ◌%◌, ◌^◌, ◌≤◌, ◌<◌}
use native.Mathlib.Nat.{div-one, mod-one, div-add-mod', mul-pos, zero-mul, min-eq_left, add-zero}
use native.Mathlib.Omega.{arith}
use native.Mathlib.Decide.{dec_lt}
use borrow.Author.Tests.{lt-ltb, lt-leb, eq-eqb}
use lib.Dec.{leb, ltb, lit<}
use lib.IntN.{pos}
use lib.Pow.{pow_pos}
use lib.Ieee.{Float, nan, inf, fin, Format, binary32, binary64, prec, low, hid, ones, top, of_bits, to_bits}
use lib.Ieee.Bits.{nan_bits_above}
use lib.Ieee.Exact.{HasValue}
use Rattle.rounding.specs.Rounding.{cut_to, tiny}
use Rattle.packing.specs.Pack.{packed, ceiling, IsSettled}
use Rattle.rounding.specs.declared.rounding.Rounding.{Rounding}
use Rattle.floats.proofs.Units.{Lead, sign_bit, reads_low, reads_normal, reads_zero, reads_inf}
use Rattle.floats.proofs.Patterns.{reads_nan}
use Rattle.rounding.proofs.Cutting.{cut_exact}
use Rattle.packing.proofs.Written.{rounded_bits, exact_is, over_is, ceiling_ge}
use Rattle.packing.proofs.Settle.{settled_same}

-- ---- NaNs and infinities

pub nan_above : (f : Format) (b : ℕ) → ones f * hid f < b % top f → of_bits f b ≡ nan
nan_above f b h = reads_nan f b (nan_bits_above f b ∙ lt-ltb (ones f * hid f) (b % top f) h)

pub inf_at : (f : Format) (b : ℕ) → b % top f ≡ ones f * hid f → of_bits f b ≡ inf (leb (top f) b)
inf_at binary32 b h = reads_inf binary32 b (omega arith) (omega arith)
inf_at binary64 b h = reads_inf binary64 b (omega arith) (omega arith)

-- ---- a finite word's size

-- q * 2 ^ k smallest values, which the format holds, round to themselves
own : (mode : Rounding) (f : Format) (s : Bool) (q k bits : ℕ) → q < 2 ^ prec f → Lead f k q → k * hid f + q < ones f * hid f → cond s (top f) 0 + (k * hid f + q) ≡ bits
    → IsSettled mode f s (q * 2 ^ k) (2 ^ low f) bits true false (tiny f (q * 2 ^ k) (2 ^ low f))
own mode f s q k bits few lead most word = record {
  bits_are =
      sym
      (rounded_bits mode f s (q * 2 ^ k) (2 ^ low f) k q 1 (pow_pos (low f)) (lit< tt) (scale q (2 ^ k) (2 ^ low f)) small leads
      ∙ ap (packed mode f s k) kept
      ∙ ap (λ (z : ℕ). cond s (top f) 0 + z) (min-eq_left (before (k * hid f + q) (ones f * hid f) (ceiling mode f s) most (ceiling_ge mode f s)))
      ∙ word);
  exact_is = sym (exact_is mode f s (q * 2 ^ k) (2 ^ low f) k q 1 (pow_pos (low f)) (lit< tt) (scale q (2 ^ k) (2 ^ low f)) small leads ∙ eq-eqb (q % 1) 0 (mod-one q));
  over_is =
      sym
      (over_is mode f s (q * 2 ^ k) (2 ^ low f) k q 1 (pow_pos (low f)) (lit< tt) (scale q (2 ^ k) (2 ^ low f)) small leads
      ∙ ap (λ (z : ℕ). leb (ones f * hid f) (k * hid f + z)) kept
      ∙ lt-leb (ones f * hid f) (k * hid f + q) most);
  tiny_is = refl;
}
  where
    scale : (q k l : ℕ) → q * k * l * 1 ≡ q * (l * k)
    scale q k l = omega arith

    before : (x y z : ℕ) → x < y → y - 1 ≤ z → x ≤ z
    before x y z a b = omega arith

    small : q / 1 < 2 ^ prec f
    small = subst (λ (z : ℕ). z < 2 ^ prec f) (sym (div-one q)) few

    leads : Lead f k (q / 1)
    leads = subst (λ (z : ℕ). Lead f k z) (sym (div-one q)) lead

    kept : cut_to mode s q 1 ≡ q
    kept = cut_exact mode s q 1 (lit< tt) (mod-one q) ∙ div-one q

-- a word by its sign and the rest of it
pub word_is : (f : Format) (b n : ℕ) → n ≡ b % top f → b < 2 * top f → cond (leb (top f) b) (top f) 0 + n ≡ b
word_is f b n e l = ap (λ (z : ℕ). z + n) (sym (sign_bit (top f) b (top f) (top_pos f) l)) ∙ ap (λ (z : ℕ). b / top f * top f + z) e ∙ div-add-mod' b (top f)
  where
    top_pos : (f : Format) → 0 < top f
    top_pos binary32 = lit< tt
    top_pos binary64 = lit< tt

-- a finite word stands for a whole number of smallest values, not 0 where its pattern is not, which rounds to the word itself, exactly
pub record Sized (f : Format) (b : ℕ) : Type 0 where
  pub size : ℕ
  pub value : HasValue (of_bits f b) (leb (top f) b) size (2 ^ low f)
  pub some : 0 < b % top f → 0 < size
  pub settles : b < 2 * top f → (mode : Rounding) → IsSettled mode f (leb (top f) b) size (2 ^ low f) b true false (tiny f size (2 ^ low f))

pub sized : (f : Format) (b : ℕ) → b % top f < ones f * hid f → Sized f b
sized f b h = go f (dec_lt 0 (b % top f / hid f)) h
  where
    none : (x : ℕ) → (0 < x → ⊥) → x ≡ 0
    none x n = omega arith

    not_none : (x : ℕ) → 0 < x → x ≡ 0 → ⊥
    not_none x n e = omega arith

    under : (f : Format) → b % top f < ones f * hid f → b % top f / hid f ≡ ones f → ⊥
    under binary32 h e = omega arith
    under binary64 h e = omega arith

    digits : (f : Format) → b % top f / hid f ≡ 0 → 0 < b % top f → 0 < b % hid f
    digits binary32 h e = omega arith
    digits binary64 h e = omega arith

    lead : (f : Format) → (0 < hid f + b % hid f) × (hid f ≤ hid f + b % hid f) × (hid f + b % hid f < 2 ^ prec f) × (b % hid f < 2 ^ prec f)
    lead binary32 = omega arith
    lead binary64 = omega arith

    normal : (f : Format) → 0 < b % top f / hid f → (b % top f / hid f - 1) * hid f + (hid f + b % hid f) ≡ b % top f
    normal binary32 p = omega arith
    normal binary64 p = omega arith

    low_pattern : (f : Format) → b % top f / hid f ≡ 0 → 0 * hid f + b % hid f ≡ b % top f
    low_pattern binary32 z = omega arith
    low_pattern binary64 z = omega arith

    go : (f : Format) → Dec (0 < b % top f / hid f) → b % top f < ones f * hid f → Sized f b
    go f (yes p) h =
        let x = b % top f / hid f in
        let q = hid f + b % hid f in record {
          size = q * 2 ^ (x - 1);
          value = reads_normal f b (not_none x p) (under f h);
          some = λ _. mul-pos (lead f).0 (pow_pos (x - 1));
          settles = λ l (mode : Rounding). own mode f (leb (top f) b) q (x - 1) b (lead f).2 (inr (lead f).1) (subst (λ (z : ℕ). z < ones f * hid f) (sym (normal f p)) h) (word_is f b _ (normal f p) l);
        }
    go f (no n) h =
        let z : b % top f / hid f ≡ 0 = none (b % top f / hid f) n in record {
          size = b % hid f * 2 ^ 0;
          value = reads_low f b z;
          some = λ g. mul-pos (digits f z g) (pow_pos 0);
          settles = λ l (mode : Rounding). own mode f (leb (top f) b) (b % hid f) 0 b (lead f).3 (inl refl) (subst (λ (w : ℕ). w < ones f * hid f) (sym (low_pattern f z)) h) (word_is f b _ (low_pattern f z) l);
        }

-- ---- what is written

pub nan_bits : (f : Format) (v : Float) → v ≡ nan → ones f * hid f + hid f / 2 ≡ to_bits f v
unfolding to_bits
nan_bits f v e = sym (ap (to_bits f) e)

pub inf_bits : (f : Format) (v : Float) (s : Bool) (sign : ℕ) → sign ≡ cond s (top f) 0 → v ≡ inf s → sign + ones f * hid f ≡ to_bits f v
unfolding to_bits
inf_bits f v s sign d e = ap (λ (z : ℕ). z + ones f * hid f) d ∙ sym (ap (to_bits f) e)

tiny_none : (f : Format) (num den : ℕ) → num ≡ 0 → tiny f num den ≡ false
unfolding tiny
tiny_none f num den e = ap (λ (z : ℕ). ltb 0 z && ltb (z * 2 ^ low f) (hid f * den)) e

-- nothing is the zero of the sign, exactly
pub zero_settles : (mode : Rounding) (f : Format) (s : Bool) (num den : ℕ) → 0 < den → num ≡ 0 → IsSettled mode f s num den (cond s (top f) 0) true false false
zero_settles mode f s num den D e =
    settled_same mode f s (0 * 2 ^ 0) (2 ^ low f) num den (cond s (top f) 0) true false false (pow_pos (low f)) D
    (ap (λ (z : ℕ). z * den) (zero-mul (2 ^ 0)) ∙ zero-mul den ∙ sym (ap (λ (z : ℕ). z * 2 ^ low f) e ∙ zero-mul (2 ^ low f)))
    (subst (IsSettled mode f s (0 * 2 ^ 0) (2 ^ low f) (cond s (top f) 0) true false) (none f)
    (own mode f s 0 0 (cond s (top f) 0) (pow_pos (prec f)) (inl refl) (some f) (ap (λ (z : ℕ). cond s (top f) 0 + (z + 0)) (zero-mul (hid f)) ∙ add-zero (cond s (top f) 0))))
  where
    some : (f : Format) → 0 * hid f + 0 < ones f * hid f
    some binary32 = lit< tt
    some binary64 = lit< tt

    none : (f : Format) → tiny f (0 * 2 ^ 0) (2 ^ low f) ≡ false
    none f = tiny_none f (0 * 2 ^ 0) (2 ^ low f) (zero-mul (2 ^ 0))

pub zero_size : (f : Format) (b : ℕ) → b % top f ≡ 0 → HasValue (of_bits f b) (leb (top f) b) 0 1
zero_size f b z = subst (λ (v : Float). HasValue v (leb (top f) b) 0 1) (sym (reads_zero f b z)) (refl, refl)

pub signed_zero : (f : Format) (s : Bool) → to_bits f (fin s 0 (pos 0)) ≡ cond s (top f) 0
unfolding to_bits
signed_zero binary32 true = refl
signed_zero binary32 false = refl
signed_zero binary64 true = refl
signed_zero binary64 false = refl
