-- The last stage: m * 2 ^ e / 2 ^ 2209 at a format, from its pattern in the format's smallest values. Over the mode and the format.
-- Assumes nothing.
use mathlib.Core.Path.{◌≡◌, refl, sym, ap, ◌∙◌, subst}
use mathlib.Core.Logic.{◌⊎◌, inl, inr}
use mathlib.Core.Bool.{Bool, true, false, ◌&&◌, cond}
use Prim.Native.Nat.{ℕ, ◌+◌, ◌-◌, ◌*◌, ◌/◌, ◌^◌, ◌≤◌, ◌<◌, min, zero-le}
use native.Mathlib.Nat.{le_trans, le_of_eq, le_refl, lt_of_lt_of_le, mul_assoc, le-div_iff_mul-le, not-le_of_lt}
use native.Mathlib.Omega.{arith}
use lib.Dec.{ltb, lit≤, leb}
use lib.Pow.{pow-add, pow_pos, pow_mono, shr_lt}
use lib.Ieee.{Format, binary32, binary64, prec, low, hid, ones, top, to_bits}
use Rattle.rounding.specs.Rounding.{IsCut}
use Rattle.packing.specs.Pack.{ceiling, packed, spare, edge, IsPacked, IsSettled}
use Rattle.rounding.specs.declared.rounding.Rounding.{Rounding}
use Rattle.floats.proofs.Units.{Lead}
use Rattle.rounding.proofs.Cutting.{cut_far, rest_far, whole_far}
use Rattle.packing.proofs.Written.{ceiling-le, rounded_bits, exact_is, over_is, tiny_is, rounded_same, exact_same, over_same, tiny_same}

module _ (mode : Rounding) (f : Format) (s : Bool) (m e sh k : ℕ) (exps : e + low f + sh ≡ 2209 + k) (small : m / 2 ^ sh < 2 ^ prec f) (lead : Lead f k (m / 2 ^ sh)) where
  scale : m * 2 ^ e * 2 ^ low f * 2 ^ sh ≡ m * (2 ^ 2209 * 2 ^ k)
  scale =
      ap (λ (x : ℕ). x * 2 ^ sh) (mul_assoc m (2 ^ e) (2 ^ low f) ∙ ap (λ (x : ℕ). m * x) (sym (pow-add 2 e (low f))))
      ∙ mul_assoc m (2 ^ (e + low f)) (2 ^ sh)
      ∙ ap (λ (x : ℕ). m * x) (sym (pow-add 2 (e + low f) sh) ∙ ap (λ (x : ℕ). 2 ^ x) exps ∙ pow-add 2 2209 k)

  at : (bits : ℕ) (x o t : Bool) → IsPacked mode f s k m (2 ^ sh) bits x o t → IsSettled mode f s (m * 2 ^ e) (2 ^ 2209) bits x o t
  at bits x o t p = record {
    bits_are = p.bits_are ∙ sym (rounded_bits mode f s (m * 2 ^ e) (2 ^ 2209) k m (2 ^ sh) (pow_pos 2209) (pow_pos sh) scale small lead);
    exact_is = p.exact_is ∙ sym (exact_is mode f s (m * 2 ^ e) (2 ^ 2209) k m (2 ^ sh) (pow_pos 2209) (pow_pos sh) scale small lead);
    over_is = p.over_is ∙ sym (over_is mode f s (m * 2 ^ e) (2 ^ 2209) k m (2 ^ sh) (pow_pos 2209) (pow_pos sh) scale small lead);
    tiny_is = p.tiny_is ∙ sym (tiny_is mode f s (m * 2 ^ e) (2 ^ 2209) k m (2 ^ sh) (pow_pos 2209) (pow_pos sh) scale small lead);
  }

low_exps : (f : Format) (e : ℕ) → e < edge f → e + low f + (edge f + spare f - e) ≡ 2209 + 0
low_exps binary32 e h = omega arith
low_exps binary64 e h = omega arith

low_room : (f : Format) (e : ℕ) → e < edge f → 62 ≤ prec f + (edge f + spare f - e)
low_room binary32 e h = omega arith
low_room binary64 e h = omega arith

high_exps : (f : Format) (e : ℕ) → edge f ≤ e → e + low f + spare f ≡ 2209 + (e - edge f)
high_exps binary32 e h = omega arith
high_exps binary64 e h = omega arith

all_digits : (f : Format) → 62 ≤ prec f + spare f
all_digits binary32 = lit≤ tt
all_digits binary64 = lit≤ tt

first_digit : (f : Format) → hid f * 2 ^ spare f ≤ 2 ^ 61
first_digit binary32 = lit≤ tt
first_digit binary64 = lit≤ tt

-- a unit beyond all digits of m: as good as any further one
far : (mode : Rounding) (f : Format) (s : Bool) (m w bits : ℕ) (x o t : Bool) → m < 2 ^ 62 → IsPacked mode f s 0 m (2 ^ min w 63) bits x o t → IsPacked mode f s 0 m (2 ^ w) bits x o t
far mode f s m w bits x o t h p = record {
  bits_are = p.bits_are ∙ ap (packed mode f s 0) (cut_far mode s m w h);
  exact_is = p.exact_is ∙ rest_far m w h;
  over_is = p.over_is ∙ ap (λ (z : ℕ). leb (ones f * hid f) (0 * hid f + z)) (cut_far mode s m w h);
  tiny_is = p.tiny_is ∙ ap (λ (z : ℕ). ltb 0 m && ltb z (hid f)) (whole_far m w h);
}

-- below the smallest normal value
pub settle_low : (mode : Rounding) (f : Format) (s : Bool) (m e sh bits : ℕ) (x o t : Bool) → m < 2 ^ 62 → e < edge f → sh ≡ min (edge f + spare f - e) 63
    → IsPacked mode f s 0 m (2 ^ sh) bits x o t → IsSettled mode f s (m * 2 ^ e) (2 ^ 2209) bits x o t
settle_low mode f s m e sh bits x o t h l d p =
    let w = edge f + spare f - e in
    at mode f s m e w 0 (low_exps f e l) (shr_lt (prec f) w (lt_of_lt_of_le h (pow_mono (low_room f e l)))) (inl refl) bits x o t
    (far mode f s m w bits x o t h (subst (λ (z : ℕ). IsPacked mode f s 0 m (2 ^ z) bits x o t) d p))

-- from it on, with the leading digit in its place
pub settle_high : (mode : Rounding) (f : Format) (s : Bool) (m e bits : ℕ) (x o t : Bool) → m < 2 ^ 62 → edge f ≤ e → (e < edge f) ⊎ (2 ^ 61 ≤ m)
    → IsPacked mode f s (e - edge f) m (2 ^ spare f) bits x o t → IsSettled mode f s (m * 2 ^ e) (2 ^ 2209) bits x o t
settle_high mode f s m e bits x o t h l (inl g) p = absurd (not-le_of_lt g l)
settle_high mode f s m e bits x o t h l (inr g) p =
    at mode f s m e (spare f) (e - edge f) (high_exps f e l) (shr_lt (prec f) (spare f) (lt_of_lt_of_le h (pow_mono (all_digits f))))
    (inr ((le-div_iff_mul-le (pow_pos (spare f))).1 (le_trans (first_digit f) g))) bits x o t p

-- the same fraction
pub settled_same : (mode : Rounding) (f : Format) (s : Bool) (a b c d bits : ℕ) (x o t : Bool) → 0 < b → 0 < d → a * d ≡ c * b → IsSettled mode f s a b bits x o t
    → IsSettled mode f s c d bits x o t
settled_same mode f s a b c d bits x o t B D e p = record {
  bits_are = p.bits_are ∙ ap (to_bits f) (rounded_same mode f s a b c d B D e);
  exact_is = p.exact_is ∙ exact_same mode f s a b c d B D e;
  over_is = p.over_is ∙ over_same mode f s a b c d B D e;
  tiny_is = p.tiny_is ∙ tiny_same mode f s a b c d B D e;
}

-- the pattern, from its parts
pub pack_is : (mode : Rounding) (f : Format) (s : Bool) (k m u kept sign least most : ℕ) (x t : Bool) → IsCut mode s m u kept x
    → sign ≡ cond s (top f) 0 → most ≡ ceiling mode f s → least ≡ min (k * hid f + kept) most → t ≡ (ltb 0 m && ltb (m / u) (hid f))
    → IsPacked mode f s k m u (sign + least) x (leb (ones f * hid f) (k * hid f + kept)) t
pack_is mode f s k m u kept sign least most x t c p q r g = record {
  bits_are =
      ap (λ (z : ℕ). z + least) p
      ∙ ap (λ (z : ℕ). cond s (top f) 0 + z) (r ∙ ap (λ (z : ℕ). min (k * hid f + kept) z) q ∙ ap (λ (z : ℕ). min (k * hid f + z) (ceiling mode f s)) c.kept_is);
  exact_is = c.exact_is;
  over_is = ap (λ (z : ℕ). leb (ones f * hid f) (k * hid f + z)) c.kept_is;
  tiny_is = g;
}

pub sign_le : (s : Bool) (a : ℕ) → cond s a 0 ≤ a
sign_le true a = le_refl a
sign_le false a = zero-le

-- nothing that is packed is longer than its word
pub pack_fits : (mode : Rounding) (f : Format) (s : Bool) (sign least most size : ℕ) → sign ≡ cond s (top f) 0 → most ≡ ceiling mode f s → least ≡ min size most
    → sign + least ≤ top f + ones f * hid f
pack_fits mode f s sign least most size p q r =
    sums sign least (top f) (ones f * hid f) (le_trans (le_of_eq p) (sign_le s (top f))) (le_trans (le_of_eq r) (le_trans (least_le size most) (le_trans (le_of_eq q) (ceiling-le mode f s))))
  where
    sums : (a b c d : ℕ) → a ≤ c → b ≤ d → a + b ≤ c + d
    sums a b c d h k = omega arith

    least_le : (a b : ℕ) → min a b ≤ b
    least_le a b = omega arith

-- ---- what the code needs of a width

pub spare_some : (f : Format) → 9 ≤ spare f
spare_some binary32 = lit≤ tt
spare_some binary64 = lit≤ tt

pub size_fits : (f : Format) (k h c : ℕ) → h ≡ hid f → k < 4000 → c ≤ 2 ^ 53 → k * h + c < 2 ^ 64
size_fits binary32 k h c e p q = rw e (omega arith)
size_fits binary64 k h c e p q = rw e (omega arith)

pub edge_some : (f : Format) → 1000 ≤ edge f
edge_some binary32 = lit≤ tt
edge_some binary64 = lit≤ tt
